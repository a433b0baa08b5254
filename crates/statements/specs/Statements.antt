-- The statement of a run, line by line: what was refused, every operator in roll order, and the
-- totals.
use Rattle.std.specs.Prelude.{ℕ, ◌+◌, List, ◌++◌, codes, decimal, flat_map}
use Rattle.money.specs.Text.{money_text}
use Rattle.money.specs.Signs.{difference_text}
use Rattle.tariff.specs.Meaning.{Meaning}
use Rattle.book.specs.Members.{rate_of}
use Rattle.book.specs.Zone.{State, Tables, counted_roll}
use Rattle.book.specs.declared.entries.RollEntry.{RollEntry}
use Rattle.book.specs.declared.figures.Totals.{Totals}
use Rattle.file_run.specs.Reports.{ShownNotice, ending, file_notices}
use Rattle.file_run.specs.Texts.{notice_text}
use Rattle.statements.specs.declared.parts.Account.{Account}

-- An operator with its tranches of all years together and its balance.
abbrev pub account_of : RollEntry → Account
account_of e = record {
  operator = e.operator;
  tranches = rate_of e.tranches;
  balance = record { micros = e.balance };
}

abbrev pub account_text : Account → List ℕ
account_text a =
    codes "OP " ++ (decimal a.operator ++
    (codes " TRANCHES " ++ (decimal a.tranches ++
    (codes " BALANCE " ++ money_text a.balance.micros))))

-- The totals, and the text of what is held.
abbrev pub totals_text : Totals → List ℕ → List ℕ
totals_text t held =
    codes "TOTAL " ++ (money_text t.contributed ++ (codes " CREDITED " ++ (money_text t.credited ++
    (codes " UNSHARED " ++ (money_text t.unshared ++ (codes " HELD " ++ held))))))

-- Each line ends with a line feed.
abbrev pub line : List ℕ → List ℕ
line text = text ++ codes "\n"

abbrev pub statement_text : List ShownNotice → List RollEntry → Totals → List ℕ → List ℕ
statement_text notices roll totals held =
    flat_map (λ n. line (notice_text n)) notices ++
    (flat_map (λ e. line (account_text (account_of e))) roll ++ line (totals_text totals held))

-- What is held is contributed less credited less unshared.
abbrev pub held_text : Totals → List ℕ
held_text t = difference_text t.contributed (t.credited + t.unshared)

-- The statement of a file that is run with a sheet from some tables.
abbrev pub statement_at : List ShownNotice → State → List ℕ
statement_at notices s = statement_text notices (counted_roll s.figures s.tables) s.figures.totals
    (held_text s.figures.totals)

abbrev pub statement_of : Meaning → Tables → List ℕ → List ℕ
statement_of m t bs = statement_at (file_notices m t bs) (ending m t bs)
