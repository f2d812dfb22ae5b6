-- The parties' names.
use Rattle.std.specs.Prelude.{codes}
use Rattle.merkle.specs.Bytes.{Bytes}
use Rattle.witness.specs.declared.Party.{Party}
use Rattle.witness.specs.declared.Party.TheVariants.{Claimer, Doubter}

abbrev pub name : Party → Bytes
name Claimer = codes "claimer"
name Doubter = codes "doubter"
