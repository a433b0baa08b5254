-- The lines that calls write.
--   nature_number   a nature's number
--   line            a line of a unit and a quantity
--   unit_shown      the unit that some lines show for an operator and an object
use Rattle.std.specs.Prelude.{ℕ, ◌*◌, Bool, ◌&&◌, List, Some, None, Option, ◌==◌, find}
use Rattle.book.specs.declared.lines.Line.{Line}
use Rattle.book.specs.declared.lines.Nature.{Nature}
use Rattle.book.specs.declared.lines.Nature.TheVariants.{Charge, Contribution, Credit}

-- A charge is 1, a contribution 2, a credit 3.
abbrev pub nature_number : Nature → ℕ
nature_number Charge = 1
nature_number Contribution = 2
nature_number Credit = 3

-- The total of a line is its unit times its quantity.
abbrev pub line : Nature → ℕ → ℕ → ℕ → ℕ → Line
line nature operator object unit quantity =
    record {
      nature = nature;
      operator = operator;
      object = object;
      unit = unit;
      quantity = quantity;
      total = unit * quantity;
    }

-- Whether a line is of a nature, for an operator and an object.
abbrev pub shows : Nature → ℕ → ℕ → Line → Bool
shows nature operator object l =
    (nature_number l.nature == nature_number nature) &&
    (l.operator == operator && l.object == object)

abbrev pub unit_of : Option Line → ℕ
unit_of None = 0
unit_of (Some l) = l.unit

-- The unit of the first such line, 0 where there is none.
abbrev pub unit_shown : Nature → ℕ → ℕ → List Line → ℕ
unit_shown nature operator object lines = unit_of (find (shows nature operator object) lines)
