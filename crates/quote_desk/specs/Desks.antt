-- What a desk answers: it reads lines one by one and remembers the sheet chosen and the series read
-- so far.
--   DeskState     the sheet chosen, and the rows of each series in the order read
--   priced        the price of what is asked for, on a sheet's meaning
--   quotation_on  the same on the sheet chosen, made of the series read so far
--   answer_to     what a line is answered; only orders and lines that cannot be read are
--   state_after   the state after a line
use Rattle.std.specs.Prelude.{ℕ, ◌&&◌, List, [], ◌∷◌, ◌++◌, replicate, Some, None, Ok, Err, vec_items, Option, Result}
use Rattle.refusal.specs.declared.Refusal.{Refusal}
use Rattle.series.specs.Limits.{index_fits}
use Rattle.series.specs.Rows.{sound}
use Rattle.series.specs.declared.rows.Dated.{Dated}
use Rattle.series.specs.declared.limits.IndexNumber.{IndexNumber}
use Rattle.tariff.specs.Meaning.{Meaning}
use Rattle.sheet_parts.specs.Given.{prices_in_limits, terms_in_limits, making}
use Rattle.sheets.specs.Flat.{flat}
use Rattle.sheets.specs.IndexedSheets.{indexed}
use Rattle.sheets.specs.DatedSheets.{dated}
use Rattle.sheet_parts.specs.declared.given.Prices.{Prices}
use Rattle.sheet_parts.specs.declared.given.Terms.{Terms}
use Rattle.links.specs.Quotations.{link_quotation, fibre_quotation}
use Rattle.links.specs.declared.order.Order.{Order}
use Rattle.links.specs.declared.quotation.Quotation.{Quotation}
use Rattle.requests.specs.Fields.{then_do}
use Rattle.requests.specs.Requests.{request_in}
use Rattle.requests.specs.declared.request.Item.{Item}
use Rattle.requests.specs.declared.request.Item.TheVariants.{Link, Fibre}
use Rattle.requests.specs.declared.request.Enquiry.{Enquiry}
use Rattle.requests.specs.declared.request.Choice.{Choice}
use Rattle.requests.specs.declared.request.Choice.TheVariants as choice
use Rattle.requests.specs.declared.request.Request.{Request}
use Rattle.requests.specs.declared.request.Request.TheVariants as asks
use Rattle.requests.specs.declared.unreadable.Unreadable.{Unreadable}
use Rattle.quote_desk.specs.declared.reply.Answer.{Answer}
use Rattle.quote_desk.specs.declared.reply.Answer.TheVariants.{Priced, Refused, Unread}
use Rattle.quote_desk.specs.declared.desk.Desk.{Desk}

-- What a desk remembers: the sheet chosen, and the rows of each series in the order read.
pub record DeskState : Type 0 where
  pub choice : Choice
  pub wages : List (Dated IndexNumber)
  pub consumer : List (Dated IndexNumber)
  pub records : List (Dated Prices)

-- A desk as a plain value.
abbrev pub desk_state : Desk → DeskState
desk_state desk = record {
  choice = desk.choice;
  wages = vec_items desk.wages;
  consumer = vec_items desk.consumer;
  records = vec_items desk.records;
}

-- Flat at first, with no row read.
abbrev pub first_state : DeskState
first_state = record { choice = choice.Flat; wages = []; consumer = []; records = [] }

-- The network's first prices, in micro-euros.
abbrev pub desk_prices : Prices
desk_prices = record { covered = 6910000; connectable = 18770000; third = 16200000 }

-- A contribution of 15 hundredths, and tranches that weigh alike.
abbrev pub desk_terms : Terms
desk_terms = record { contribution = 15; weights = replicate 41 100 }

-- The price of an item on a sheet's meaning.
abbrev pub priced_as : Meaning → Item → Order → Result Quotation Refusal
priced_as m Link order = link_quotation m order
priced_as m Fibre order = fibre_quotation m order

-- The price of what is asked for.
abbrev pub priced : Meaning → Enquiry → Result Quotation Refusal
priced m enquiry = priced_as m enquiry.item enquiry.order

-- On the flat sheet, unless what it is made of is refused.
abbrev pub on_flat : Enquiry → Result Quotation Refusal
on_flat enquiry =
    then_do (making (prices_in_limits desk_prices && terms_in_limits desk_terms))
    (λ _. priced (flat desk_prices desk_terms) enquiry)

-- On the indexed sheet, unless what it is made of is refused.
abbrev pub on_indexed : (wages consumer : List (Dated IndexNumber)) → Enquiry →
    Result Quotation Refusal
on_indexed wages consumer enquiry =
    then_do
    (making
    ((prices_in_limits desk_prices && terms_in_limits desk_terms)
    && (sound index_fits wages && sound index_fits consumer)))
    (λ _. priced (indexed desk_prices desk_terms wages consumer) enquiry)

-- On the dated sheet, unless what it is made of is refused.
abbrev pub on_dated : List (Dated Prices) → Enquiry → Result Quotation Refusal
on_dated records enquiry =
    then_do (making (sound prices_in_limits records && terms_in_limits desk_terms))
    (λ _. priced (dated records desk_terms) enquiry)

-- On the sheet of a choice, made of the series read so far.
abbrev pub priced_by : Choice → DeskState → Enquiry → Result Quotation Refusal
priced_by choice.Flat s enquiry = on_flat enquiry
priced_by choice.Indexed s enquiry = on_indexed s.wages s.consumer enquiry
priced_by choice.Dated s enquiry = on_dated s.records enquiry

-- On the sheet chosen.
abbrev pub quotation_on : DeskState → Enquiry → Result Quotation Refusal
quotation_on s enquiry = priced_by s.choice s enquiry

-- A price or its refusal, with what it was asked for.
abbrev pub answer_of : Enquiry → Result Quotation Refusal → Answer
answer_of enquiry (Ok quotation) = Priced enquiry quotation
answer_of enquiry (Err refusal) = Refused enquiry refusal

-- Only what asks for a price, and what cannot be read, is answered.
abbrev pub answer_for : DeskState → Result (Option Request) Unreadable → Option Answer
answer_for s (Ok None) = None
answer_for s (Ok (Some (asks.Price enquiry))) = Some (answer_of enquiry (quotation_on s enquiry))
answer_for s (Ok (Some (asks.Sheet sheet))) = None
answer_for s (Ok (Some (asks.Wages row))) = None
answer_for s (Ok (Some (asks.Consumer row))) = None
answer_for s (Ok (Some (asks.Record row))) = None
answer_for s (Err reason) = Some (Unread reason)

-- What a line is answered.
abbrev pub answer_to : DeskState → List ℕ → Option Answer
answer_to s bytes = answer_for s (request_in bytes)

-- A sheet chosen is remembered, and a row goes to the end of its series.
abbrev pub after_reading : DeskState → Result (Option Request) Unreadable → DeskState
after_reading s (Ok None) = s
after_reading s (Ok (Some (asks.Price enquiry))) = s
after_reading s (Ok (Some (asks.Sheet sheet))) = record s { choice = sheet }
after_reading s (Ok (Some (asks.Wages row))) = record s { wages = s.wages ++ (row ∷ []) }
after_reading s (Ok (Some (asks.Consumer row))) = record s { consumer = s.consumer ++ (row ∷ []) }
after_reading s (Ok (Some (asks.Record row))) = record s { records = s.records ++ (row ∷ []) }
after_reading s (Err reason) = s

-- The state after a line.
abbrev pub state_after : DeskState → List ℕ → DeskState
state_after s bytes = after_reading s (request_in bytes)

-- A line that adds a row to a series, which wants memory.
abbrev pub AddsRow : Result (Option Request) Unreadable → Type 0
AddsRow (Ok None) = ⊥
AddsRow (Ok (Some (asks.Price enquiry))) = ⊥
AddsRow (Ok (Some (asks.Sheet sheet))) = ⊥
AddsRow (Ok (Some (asks.Wages row))) = Unit {0}
AddsRow (Ok (Some (asks.Consumer row))) = Unit {0}
AddsRow (Ok (Some (asks.Record row))) = Unit {0}
AddsRow (Err reason) = ⊥
