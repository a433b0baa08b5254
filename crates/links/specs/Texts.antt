-- The text of an order and of its price: words, decimal numbers and euros with six decimals.
use Rattle.std.specs.Prelude.{ℕ, List, ◌++◌, Some, None, codes, decimal, Option}
use Rattle.money.specs.Text.{money_text}
use Rattle.links.specs.declared.order.Order.{Order}
use Rattle.links.specs.declared.quotation.Basis.{Basis}
use Rattle.links.specs.declared.quotation.Basis.TheVariants.{AbInitio, ExPost}
use Rattle.links.specs.declared.quotation.Quotation.{Quotation}

-- A date, or that none is known.
abbrev pub if_known : Option ℕ → List ℕ
if_known None = codes "UNKNOWN"
if_known (Some date) = decimal date

-- What is ordered, each number after its name.
abbrev pub order_text : Order → List ℕ
order_text o =
    codes "ORDERED " ++ (decimal o.ordered ++ (codes " METRES " ++ (decimal o.metres ++
    (codes " FIBRES " ++ (decimal o.fibres ++ (codes " SERVICE " ++ if_known o.service))))))

-- How a price comes about.
abbrev pub basis_text : Basis → List ℕ
basis_text AbInitio = codes "AB INITIO"
basis_text (ExPost c) =
    codes "EX POST " ++ (decimal c.numerator ++ (codes "/" ++ decimal c.denominator))

-- How the price comes about, and the price.
abbrev pub quotation_text : Quotation → List ℕ
quotation_text q = basis_text q.basis ++ (codes " PRICE " ++ money_text q.price)
