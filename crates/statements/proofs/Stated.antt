-- What a statement says of a run.
use Rattle.std.proofs.Common.{◌≡◌, ℕ, Bool, List, take, ap, ◌∙◌}
use Rattle.money.specs.Signs.{apart, below_zero, difference_text, signed_text}
use Rattle.tariff.specs.Meaning.{Meaning}
use Rattle.book.specs.Zone.{Tables}
use Rattle.book.specs.declared.figures.Figures.{Figures}
use Rattle.file_run.specs.Reports.{ShownNotice, ending, file_notices, paid_out}
use Rattle.statements.specs.Statements.{statement_of, statement_text}

-- A statement of what a run reports, on the tables that it leaves, is the statement of its file.
pub states_the_run : (m : Meaning) (t : Tables) (bs : List ℕ) (notices : List ShownNotice) (f : Figures) (after : Tables) (negative : Bool) (micros : ℕ) →
    notices ≡ file_notices m t bs → f ≡ (ending m t bs).figures → after ≡ (ending m t bs).tables →
    negative ≡ below_zero f.totals.contributed (paid_out (ending m t bs)) → micros ≡ apart f.totals.contributed (paid_out (ending m t bs)) →
    statement_text notices (take f.operators after.roll) f.totals (signed_text negative micros) ≡ statement_of m t bs
states_the_run m t bs notices f after negative micros noticed figured tabled signed sized =
    let s = ending m t bs in
    ap (λ n. statement_text n (take f.operators after.roll) f.totals (signed_text negative micros)) noticed
    ∙ ap (λ r. statement_text (file_notices m t bs) (take f.operators r.roll) f.totals (signed_text negative micros)) tabled
    ∙ ap (λ n. statement_text (file_notices m t bs) (take f.operators s.tables.roll) f.totals (signed_text n micros)) signed
    ∙ ap (λ a. statement_text (file_notices m t bs) (take f.operators s.tables.roll) f.totals (signed_text (below_zero f.totals.contributed (paid_out s)) a)) sized
    ∙ ap (λ (g : Figures). statement_text (file_notices m t bs) (take g.operators s.tables.roll) g.totals (difference_text g.totals.contributed (paid_out s))) figured
