use Rattle.std.proofs.Common.{◌≡◌, ◌↔◌, ℕ, Bool, true, false, IsTrue, List, refl, subst}
use Rattle.std.proofs.lemmas.Bool.{false≢true}
use Rattle.std.specs.Prelude.{All, MatchBool, nat_le, slice_index}
use Rattle.night_plan.specs.declared.commands.Command.{Command}
use Rattle.night_plan.specs.declared.commands.Take.{Take}
use Rattle.night_plan.specs.Choices.{takes_of}
use Rattle.night_plan.specs.Ranks.{IsTooMuch, TakesWithin}
use Rattle.night_plan.proofs.Choosing.{enough_or, short_of}
use Rattle.night_plan.proofs.plans.has_enough.Goals as goal

abbrev AllFit : List Take → List ℕ → Type 0
AllFit takes pools =
    All (λ row. nat_le (takes_of takes row.pool) (slice_index pools row.pool) ≡ true) takes

reported : (b : Bool) (command : Command) (pools : List ℕ)
    → IsTrue b ↔ AllFit command.takes.items pools
    → MatchBool b (TakesWithin pools command) (IsTooMuch pools command)
reported true command pools both = enough_or command.takes.items pools (both.0 refl)
reported false command pools both =
    let short = short_of command.takes.items pools (λ all. absurd (false≢true (both.1 all))) in
    record { pool = short.0; more = short.1 }

pub returns : goal.returns
returns c =
    reported c.fits.result c.args.command.now c.args.pools.now
    (subst (λ (xs : List Take). IsTrue c.fits.result ↔ AllFit xs c.args.pools.now)
    c.as_slice.ensures.value c.fits.ensures)
