-- What a reader shows, by its bytes and its position.
use Rattle.std.proofs.Common.{◌≡◌, refl}
use Rattle.event_file.specs.Positions.{left_at}
use Rattle.event_file.specs.Readers.{unread}
use Rattle.event_file.specs.declared.reader.Reader.{Reader}

pub shown_file : (reader : Reader) → reader.bytes.now ≡ (unread reader).file
unfolding unread
shown_file reader = refl

pub shown_left : (reader : Reader) → left_at reader.bytes.now reader.position ≡ (unread reader).left
unfolding unread
shown_left reader = refl
