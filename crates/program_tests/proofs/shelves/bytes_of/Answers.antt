use Rattle.std.proofs.Common.{ℕ, arith, subst}
use Rattle.run_disk.specs.History.{IsTornImage}
use Rattle.run_disk.specs.declared.tears.Torn.TheVariants.{Take}
use Rattle.run_disk.proofs.MemoryLemmas.{are_now}
use Rattle.program_tests.proofs.shelves.bytes_of.Goals as goal

pub returns-in-Ok : goal.returns-in-Ok
returns-in-Ok c =
    let h = c.args.disk.now.history in
    let torn = subst (λ (k : ℕ). IsTornImage Take h k c.in-Ok.bytes.items) c.calls.ensures
    c.in-Ok.ensures.bytes in
    record {
      whole = are_now h c.args.disk.now.tally.calls c.in-Ok.bytes.items torn.size
          (λ i below. torn.bytes i (omega (arith, below, torn.size)));
      unused = tt;
    }
