-- The text of an answer with its line's number.
use Rattle.std.specs.Prelude.{ℕ, List, ◌++◌, codes, decimal}
use Rattle.refusal.specs.Numbers.{number_of}
use Rattle.refusal.specs.Sentences.{sentence_of}
use Rattle.links.specs.Texts.{order_text, quotation_text}
use Rattle.requests.specs.RequestTexts.{item_text, reason_text}
use Rattle.requests.specs.declared.request.Enquiry.{Enquiry}
use Rattle.quote_desk.specs.declared.reply.Answer.{Answer}
use Rattle.quote_desk.specs.declared.reply.Answer.TheVariants.{Priced, Refused, Unread}
use Rattle.quote_desk.specs.declared.reply.Reply.{Reply}

-- What a price is asked for: the item and the order.
abbrev pub enquiry_text : Enquiry → List ℕ
enquiry_text e = item_text e.item ++ (codes " " ++ order_text e.order)

-- The price, the refusal or the reason, after what was asked.
abbrev pub answer_text : Answer → List ℕ
answer_text (Priced enquiry quotation) =
    codes " " ++ (enquiry_text enquiry ++ (codes ": " ++ quotation_text quotation))
answer_text (Refused enquiry refusal) =
    codes " " ++ (enquiry_text enquiry ++ (codes ": REFUSED " ++ (decimal (number_of refusal) ++
    (codes " " ++ sentence_of refusal))))
answer_text (Unread reason) = codes " UNREADABLE: " ++ reason_text reason

-- The number of the line, then its answer.
abbrev pub reply_text : Reply → List ℕ
reply_text reply = codes "LINE " ++ (decimal reply.line ++ answer_text reply.answer)
