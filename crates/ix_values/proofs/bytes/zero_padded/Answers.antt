-- What `drop` leaves of the zeros is fewer zeros.
use Rattle.std.proofs.Common.{◌++◌, length}
use Rattle.std.proofs.lemmas.List.{drop-replicate}
use Rattle.ix_values.proofs.bytes.zero_padded.Goals as goal

pub returns : goal.returns
returns c = λ i. c.copy_from_slice.ensures.after i ++ drop-replicate (length c.args.text.now) 32 0 i
