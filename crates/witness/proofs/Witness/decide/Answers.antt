use Rattle.std.proofs.Common.{true, false, sym}
use Rattle.std.proofs.lemmas.Bool.{not-true, not-false}
use Rattle.witness.proofs.Checks.{state_fails, instruction_fails, operand_fails, all_seen, ends_with}
use Rattle.witness.proofs.Witness.decide.Goals as goal

pub returns-in_default : goal.returns-in_default
returns-in_default g c =
    let d = g.D.Digester in
    let u = c.cpu_under.ensures in
    let r = state_fails d.adds d.hash c.args.start.now c.args.self.now c.args.end.now c.shape.ensures.rest _ _ _ u.value u.seen c.in_default.is in
    record { value = r.0; seen = r.1 }

pub returns-in_default-word_under : goal.returns-in_default-word_under
returns-in_default-word_under g c =
    let d = g.D.Digester in
    let u = c.cpu_under.ensures in
    let i = c.word_under.ensures in
    let r = instruction_fails d.adds d.hash c.args.start.now c.args.self.now c.args.end.now c.shape.ensures.rest _ _ _ u.value u.seen
    c.in-Some.cpu c.in-Some.is _ _ i.value i.seen c.in_default-word_under.is in
    record { value = r.0; seen = r.1 }

pub returns-in_default-word_under-2 : goal.returns-in_default-word_under-2
returns-in_default-word_under-2 g c =
    let d = g.D.Digester in
    let u = c.cpu_under.ensures in
    let i = c.word_under.ensures in
    let o = c.word_under-2.ensures in
    let r = operand_fails d.adds d.hash c.args.start.now c.args.self.now c.args.end.now c.shape.ensures.rest _ _ _ u.value u.seen
    c.in-Some.cpu c.in-Some.is _ _ i.value i.seen c.in-Some-word_under.word c.in-Some-word_under.is _ c.place_of.ensures _ _ o.value o.seen c.in_default-word_under-2.is in
    record { value = r.0; seen = r.1 }

pub returns-then-ne : goal.returns-then-ne
returns-then-ne g c =
    let d = g.D.Digester in
    let u = c.cpu_under.ensures in
    let i = c.word_under.ensures in
    let o = c.word_under-2.ensures in
    let n = c.next_digest-next.ensures in
    record {
      value = ends_with d.adds d.hash c.args.start.now c.args.self.now c.args.end.now c.shape.ensures.rest _ _ _ u.value u.seen
          c.in-Some.cpu c.in-Some.is _ _ i.value i.seen c.in-Some-word_under.word c.in-Some-word_under.is _ c.place_of.ensures _ _ o.value o.seen c.in-Some-word_under-2.operand c.in-Some-word_under-2.is _ _ n.value n.seen false (not-true _ (sym c.if-ne.ensures));
      seen = all_seen d.adds d.hash c.args.start.now c.args.self.now c.args.end.now c.shape.ensures.rest _ _ _ u.value u.seen
          c.in-Some.cpu c.in-Some.is _ _ i.value i.seen c.in-Some-word_under.word c.in-Some-word_under.is _ c.place_of.ensures _ _ o.value o.seen c.in-Some-word_under-2.operand c.in-Some-word_under-2.is _ _ n.value n.seen;
    }

pub returns : goal.returns
returns g c =
    let d = g.D.Digester in
    let u = c.cpu_under.ensures in
    let i = c.word_under.ensures in
    let o = c.word_under-2.ensures in
    let n = c.next_digest-next.ensures in
    record {
      value = ends_with d.adds d.hash c.args.start.now c.args.self.now c.args.end.now c.shape.ensures.rest _ _ _ u.value u.seen
          c.in-Some.cpu c.in-Some.is _ _ i.value i.seen c.in-Some-word_under.word c.in-Some-word_under.is _ c.place_of.ensures _ _ o.value o.seen c.in-Some-word_under-2.operand c.in-Some-word_under-2.is _ _ n.value n.seen true (not-false _ (sym c.if-ne.ensures));
      seen = all_seen d.adds d.hash c.args.start.now c.args.self.now c.args.end.now c.shape.ensures.rest _ _ _ u.value u.seen
          c.in-Some.cpu c.in-Some.is _ _ i.value i.seen c.in-Some-word_under.word c.in-Some-word_under.is _ c.place_of.ensures _ _ o.value o.seen c.in-Some-word_under-2.operand c.in-Some-word_under-2.is _ _ n.value n.seen;
    }
