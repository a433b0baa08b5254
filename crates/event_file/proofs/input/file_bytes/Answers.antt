use Rattle.std.proofs.Common.{◌≡◌, IfSome, subst, take, ◌++◌, vec_items}
use Rattle.std.specs.Option.{option_map}
use Rattle.event_file.proofs.Inputs.{read_to_limit}
use Rattle.event_file.proofs.input.file_bytes.Goals as goal

pub returns : goal.returns
returns g c =
    let still = subst (λ input. IfSome (option_map (take c.take.result.limit) (g.R.Read.remaining input)) (λ xs. vec_items c.read_to_end.new.buf ≡ vec_items c.new-bytes.result ++ xs)) c.take.ensures.inner c.in_ok-read_to_end.ensures.bytes in
    record { bytes = read_to_limit _ 65537 (g.R.Read.remaining c.args.input) _ _ c.take.ensures.limit c.new-bytes.ensures.items still }
