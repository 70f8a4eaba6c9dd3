-- A book over a new store begins as a newly opened session, and so does the demo's.
use Rattle.std.specs.Prelude.{◌≡◌, ◌⊎◌, [], ℕ, List, Option, Result, Ok, Err}
use Rattle.std.specs.Global.{Global}
use Rattle.std.proofs.Common.{arith, refl, ap, inl, inr, subst, ◌∙◌}
use Rattle.run_model.specs.declared.faults.Fault.{Fault}
use Rattle.run_model.specs.declared.faults.Fault.TheVariants as fault
use Rattle.run_model.specs.declared.layouts.Layout.{Layout}
use Rattle.run_model.specs.declared.layouts.Layout.TheVariants.{Small, Large}
use Rattle.run_model.specs.Layouts.{store_len}
use Rattle.run_model.specs.Session.{opened, begun_at}
use Rattle.run_model.specs.State.{formatted}
use Rattle.run_disk.specs.declared.memory_disks.MemoryDisk.{MemoryDisk}
use Rattle.run_disk.specs.Disk.{DiskState, IsDisk}
use Rattle.run_disk.specs.MemoryDisks.{state_of}
use Rattle.book_model.specs.Books.{BookView}
use Rattle.book_model.specs.Openings.{HasFormatted}
use Rattle.book_model.specs.Stores.{HasSpentNumbers, StoresFresh, restarted}
use Rattle.book_model.proofs.OpeningLemmas.{opens_state, unspent}
use Rattle.book_model.proofs.Storing.{stores_one}
use Rattle.console_lines.specs.declared.faults.RunFault.{RunFault}
use Rattle.console_lines.specs.declared.rejections.RejectedLine.{RejectedLine}
use Rattle.console_lines.specs.Faults.{stopped}
use Rattle.run_console.specs.declared.untils.Until.{Until}
use Rattle.night_program.specs.Demos.{DemoEnds, IsNew, IsUnopened}
use Rattle.night_program.specs.Scripts.{RunsOver, ScriptEnds}

-- The number of bytes tells the layout.
small_is : (size : ℕ) (layout : Layout)
    → size ≡ store_len layout → size ≡ store_len Small → layout ≡ Small
small_is size Small is small = refl
small_is size Large is small = absurd (omega (arith, is, small))

-- The numbers of a fresh store in generation 0 aren't used up.
fresh_unspent : (bytes : List ℕ) → StoresFresh Small 0 (formatted Small) bytes
    → HasSpentNumbers bytes → ⊥
fresh_unspent bytes fresh =
    unspent bytes (formatted Small)
    (record {
      layout = Small;
      whole = fresh.stored.whole;
      image = _;
      batches = [];
      pair = record {
        layout = Small;
        generation = 0;
        tail = 0;
        stored = fresh.stored;
      };
      means = (_, fresh.means);
    })
    (omega arith) (λ last. absurd (omega (arith, last)))

pub made_new : (first given : DiskState) → IsDisk given → first.honest
    → first.size ≡ store_len Small → HasFormatted first given → IsNew given
made_new first given is_disk honest size made =
    let then = made.passed.honest honest in
    let now = is_disk.now_is_image then in
    let is_small = small_is first.size made.layout made.sized size in
    record {
      is_disk = is_disk;
      honest = then;
      stores = rw (← is_small) (made.stores honest given.now now);
      unspent = fresh_unspent given.now
          (subst (λ l. StoresFresh l 0 (formatted l) given.now) is_small
          (made.fresh honest given.now now));
    }

begins : {D : Type 0} {Ran : BookView D → BookView D → Type 0} (state : D → DiskState)
    (given left : D) (over : RunsOver state Ran given left) → IsNew (state given)
    → over.before.session ≡ opened Small
begins state given left over new =
    let is = over.opened.answer in
    let start : over.before.session.start ≡ restarted (formatted Small) =
    ap (λ s. s.start) is.opened.session ∙ ap restarted (stores_one (state given).now is.stored
    (formatted Small) (is.found.stores new.honest) new.stores) in
    over.begun ∙ ap begun_at start

pub unopened : (why : Fault) → (why ≡ fault.Memory) ⊎ (why ≡ fault.DiskFailed)
    → IsUnopened (stopped why)
unopened why (inl memory) = inl (ap (λ w. stopped w) memory)
unopened why (inr failed) = inr (ap (λ w. stopped w) failed)

pub demo_ends : (until : Until) (r : Result (Option RejectedLine) RunFault)
    (given left : MemoryDisk Global) (r0 r1 w0 w1 : Option (List ℕ)) → IsNew (state_of given)
    → ScriptEnds state_of until given r left r0 r1 w0 w1 → DemoEnds until r r0 r1 w0 w1
demo_ends until (Ok stray) given left r0 r1 w0 w1 new (inl over) =
    (over.before, over.after, begins state_of given left over new, over.runs)
demo_ends until (Err why) given left r0 r1 w0 w1 new (inl over) =
    inr (over.before, over.after, begins state_of given left over new, over.runs.0)
demo_ends until r given left r0 r1 w0 w1 new (inr (why, reported, opens, unread, quiet)) =
    rw reported (inl (
      unopened why (opens_state state_of given (Err (why, left)) (formatted Small) new.is_disk
          new.honest opens new.stores new.unspent),
      unread,
      quiet,
    ))
