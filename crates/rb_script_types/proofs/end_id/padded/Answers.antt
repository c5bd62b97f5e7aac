use Rattle.std.proofs.Common.{◌++◌, ap, length}
use Rattle.std.proofs.lemmas.List.{drop-replicate}
use Rattle.rb_script_types.proofs.end_id.padded.Goals as goal

pub returns : goal.returns
returns c =
    rw c.copy_from_slice.ensures.after (ap (λ xs. c.args.text.now ++ xs) (drop-replicate (length c.args.text.now) 128 0))
