use Rattle.std.proofs.Common.{Some, sym, rules}
use Rattle.std.proofs.lemmas.Bool.{not-true, not-false}
use Rattle.merkle.specs.declared.preimage.Preimage.TheVariants.{State}
use Rattle.witness.proofs.Differences.{found_collides, states_differ, ways_differ}
use Rattle.witness.proofs.Witness.difference.Goals as goal

pub returns-then-ne : goal.returns-then-ne
returns-then-ne g c =
    let h = g.D.Digester.hash in
    let o = c.args.self.now in
    let own = c.args.own.now in
    let e = states_differ h o own _ _ c.state_preimage-state.ensures c.state_preimage-own_state.ensures (not-true _ (sym c.if-ne.ensures)) in
    record { value = e; collides = found_collides h o own (Some (State c.state_preimage-state.result, State c.state_preimage-own_state.result)) e }

pub returns : goal.returns
returns g c =
    let h = g.D.Digester.hash in
    let o = c.args.self.now in
    let own = c.args.own.now in
    let e = ways_differ h o own _ _ c.state_preimage-state.ensures c.state_preimage-own_state.ensures (not-false _ (sym c.if-ne.ensures)) _ c.difference-on_the_way.ensures.value
    c.or_else.result (λ k. search rules) c.or_else.ensures in
    record { value = e; collides = found_collides h o own c.or_else.result e }
