-- The effect of a run of workers.
use Rattle.std.proofs.Common.{◌∙◌, arith, ap, sym}
use Rattle.std.specs.Prelude.{◌≡◌, ◌≤◌, ◌+◌, ℕ, [], Result, Ok, Err, IfOk}
use Rattle.run_model.specs.declared.faults.Trouble.{Trouble}
use Rattle.run_disk.specs.Disk.{DiskState}
use Rattle.run_model.specs.Session.{Session, begun_at}
use Rattle.book_model.specs.Books.{Saves, BookView}
use Rattle.run_crew.specs.Desks.{finishes_of, starts_of}

-- A book that was just opened has no history.
pub no_history : {D : Type 0} (b : BookView D) → b.session ≡ begun_at b.session.start
    → b.session.history ≡ []
no_history b begun =
    ap (λ (s : Session). s.history) begun

pub no_starts : {D : Type 0} (b : BookView D) → b.session ≡ begun_at b.session.start
    → starts_of b.session.history ≡ 0
no_starts b begun = ap starts_of (no_history b begun)

pub no_finishes : {D : Type 0} (b : BookView D) → b.session ≡ begun_at b.session.start
    → finishes_of b.session.history ≡ 0
no_finishes b begun = ap finishes_of (no_history b begun)

-- A flush acknowledges all events.
pub acknowledged : {D : Type 0} (state : D → DiskState) (b d : BookView D) (r : Result ℕ Trouble)
    → Saves state b r d
    → IfOk r (λ count. (count ≡ d.session.state.count) × (d.durable ≡ count))
acknowledged state b d (Err why) saves = tt
acknowledged state b d (Ok n) saves = (
  saves.answer.counted ∙ ap (λ (s : Session). s.state.count) (sym saves.session),
  saves.answer.durable,
)

-- The counts of the shares, by their earlier counts and by the notes.
pub shares_count : (s0 f0 s1 f1 starts finishes given notes workers : ℕ)
    → s0 ≡ 0 → f0 ≡ 0 → f1 ≡ f0 + given → s0 + given ≤ s1 → s1 ≤ s0 + given + workers
    → starts ≡ s1 → finishes ≡ f1 → notes ≡ given
    → (finishes ≡ notes) × (finishes ≤ starts) × (starts ≤ finishes + workers)
shares_count s0 f0 s1 f1 starts finishes given notes workers a b c d e f g h =
    (omega (arith, b, c, g, h), omega (arith, a, b, c, d, f, g), omega (arith, a, b, c, e, f, g))
