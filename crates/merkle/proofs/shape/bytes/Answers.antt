use Rattle.merkle.proofs.Shapes.{bytes_typed}
use Rattle.merkle.proofs.shape.bytes.Goals as goal

pub returns : goal.returns
returns c = bytes_typed c.args.bytes.now (λ i. (c.type_inv.bytes i).fits)
