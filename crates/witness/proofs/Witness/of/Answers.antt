use Rattle.std.proofs.Common.{◌≡◌, ap, ◌∙◌, rules}
use Rattle.merkle.specs.declared.opening.Opening.{Opening}
use Rattle.merkle.specs.Openings.{honest}
use Rattle.machine.specs.Machine.{State, digest, step, place_of}
use Rattle.witness.specs.declared.Witness.{Witness}
use Rattle.witness.specs.Witness.{witness, accepts}
use Rattle.witness.proofs.Steps.{complete}
use Rattle.witness.proofs.Witness.of.Goals as goal

pub returns : goal.returns
unfolding witness
returns g c =
    let h = g.D.Digester.hash in
    let m = c.args.memory.now in
    let s : State = record { cpu = c.args.cpu; memory = m } in
    let p = c.from.ensures in
    let root = c.memory_digest-root.ensures.value in
    let i = c.of-instruction.ensures.value in
    let a = c.place_of.ensures ∙ ap (λ (x : Opening). place_of x.word) i in
    let o = c.of-operand.ensures.value ∙ ap (λ x. honest h x m) a in
    let whole : ◌≡◌ {A = Witness} (record { place = c.from.result; register = c.args.cpu.register; memory = c.memory_digest-root.result; instruction = c.of-instruction.result; operand = c.of-operand.result }) (witness h s) =
    λ j. record { place = p j; register = c.args.cpu.register; memory = root j; instruction = i j; operand = o j } in
    record {
      value = whole;
      complete = λ size.
          ap (λ (w : Witness). accepts h (digest h s) w (digest h (step s))) whole
          ∙ complete h g.met.D.Digester.whole s (record { place = search rules; register = search rules; size = size; words = λ k. (c.type_inv.memory k).fits });
    }
