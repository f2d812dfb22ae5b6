use Rattle.std.proofs.Common.{◌≡◌, true, cond, sym, ap, ◌∙◌, subst}
use Rattle.witness.specs.declared.Party.TheVariants.{Claimer, Doubter}
use Rattle.witness.specs.Witness.{accepts}
use Rattle.witness.proofs.Checks.{claimer_wins}
use Rattle.witness.proofs.Steps.{sound}
use Rattle.witness.proofs.Works.{light, rests}
use Rattle.witness.proofs.Witness.judge.Goals as goal

pub returns : goal.returns
returns g c =
    let h = g.D.Digester.hash in
    let o = c.args.self.now in
    let start = c.args.start.now in
    let end = c.args.end.now in
    let r = c.decide.ensures in
    record {
      value = r.value;
      seen = r.seen;
      few = light h start o c.shape.ensures.rest;
      rests = λ k agree. r.value ∙ ap (λ b. cond b Claimer Doubter) (rests h k start o end agree);
      sound = λ s v is won. sound h g.met.D.Digester.whole s v o end (subst (λ x. accepts h x o end ≡ true) is (claimer_wins _ (sym r.value ∙ won)));
    }
