use Rattle.std.specs.Prelude.{◌≡◌, ◌==◌, false, Bool, ℕ}
use Rattle.std.proofs.Common.{arith, ◌∷◌, ◌∙◌, sym, subst}
use Rattle.std.specs.Io.KnownBytes.{Keeps}
use Rattle.std.proofs.KnownBytes.{Keeps-trans}
use Rattle.std.proofs.lemmas.Bool.Decides.{nat_tests}
use Rattle.run_console.proofs.TakenBytes.{kept_long, kept_short, takes_more, to_give}
use Rattle.run_console.proofs.weaves.Weave.take_byte.Goals as goal

other : {b : ℕ} → (b ≡ 10 → ⊥) → (b == 10) ≡ false
other h = grind (arith, nat_tests, h)

pub returns-then-not-is_full-clause-left : goal.returns-then-not-is_full-clause-left
returns-then-not-is_full-clause-left g c = λ bytes.
    let w = c.begin_line.new.self in
    Keeps-trans _ _ _ (c.begin_line.ensures.left (c.args.byte ∷ bytes))
    (subst (λ (a : Bool). Keeps (to_give w.ready.items a w.latest w.line.items (c.args.byte ∷ bytes)
    (g.C.MachineTime.moments w.clock))
    (to_give c.push.new.self.items a w.latest c.push-then-not-is_full.new.self.items bytes
    (g.C.MachineTime.moments w.clock))) (sym c.begin_line.ensures.asked)
    (takes_more (g.C.MachineTime.moments w.clock) w.ready.items c.push.new.self.items
    w.line.items c.push-then-not-is_full.new.self.items w.latest c.args.byte bytes
    (other c.if-byte-eq10.false) c.push.ensures.items
    (c.push-then-not-is_full.ensures.items
    ∙ kept_short w.line.items c.args.byte (grind (arith, nat_tests)))))

pub returns-else-not-is_full-clause-left : goal.returns-else-not-is_full-clause-left
returns-else-not-is_full-clause-left g c = λ bytes.
    let w = c.begin_line.new.self in
    Keeps-trans _ _ _ (c.begin_line.ensures.left (c.args.byte ∷ bytes))
    (subst (λ (a : Bool). Keeps (to_give w.ready.items a w.latest w.line.items (c.args.byte ∷ bytes)
    (g.C.MachineTime.moments w.clock))
    (to_give c.push.new.self.items a w.latest w.line.items bytes
    (g.C.MachineTime.moments w.clock))) (sym c.begin_line.ensures.asked)
    (takes_more (g.C.MachineTime.moments w.clock) w.ready.items c.push.new.self.items
    w.line.items w.line.items w.latest c.args.byte bytes
    (other c.if-byte-eq10.false) c.push.ensures.items
    (kept_long w.line.items c.args.byte (grind (arith, nat_tests)))))
