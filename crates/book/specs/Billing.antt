-- What is billed, at the unit prices and unit contributions of the tariff.
--   billed   the lines of a commitment or raise for one object
--   bill     the lines of a commitment or raise
--   charged  the lines of an object that is entered
use Rattle.std.specs.Prelude.{◌*◌, cond, List, [], ◌∷◌, flat_map, map}
use Rattle.tariff.specs.Meaning.{Meaning}
use Rattle.unit_prices.specs.Prices.{price_at, earlier, unit_price, unit_contribution}
use Rattle.book.specs.Lines.{line}
use Rattle.book.specs.Members.{Member, Addition, rate_of}
use Rattle.book.specs.declared.entries.RegisterEntry.{RegisterEntry}
use Rattle.book.specs.declared.lines.Line.{Line}
use Rattle.book.specs.declared.lines.Nature.TheVariants.{Charge, Contribution}

-- A charge line for each object and, if it was installed on an earlier day, a contribution line
-- after it, even of 0.
abbrev pub billed : Meaning → Addition → RegisterEntry → List Line
billed m a o =
    line Charge a.operator o.object (unit_price m o.kind o.installed a.date a.tranches)
    o.dwellings ∷
    cond (earlier o.installed a.date)
    (line Contribution a.operator o.object
    (unit_contribution m o.kind o.installed a.date a.tranches) o.dwellings ∷ [])
    []

-- A commitment or raise bills each object in register order.
abbrev pub bill : Meaning → Addition → List RegisterEntry → List Line
bill m a objects = flat_map (billed m a) objects

-- For an object that is entered each operator, in roll order, gets a charge line whose unit is
-- price × rate.
abbrev pub charged : Meaning → RegisterEntry → List Member → List Line
charged m o members =
    map (λ x. line Charge x.operator o.object (price_at m o.kind o.installed * rate_of x.tranches)
    o.dwellings) members
