-- A night is opened in a store, and what is left of other nights is ended.
use Rattle.std.specs.Prelude.{◌≡◌, ◌⊎◌, ◌++◌, ◌&&◌, ◌∷◌, ◌^◌, Bool, true, false, List, []}
use Rattle.std.specs.Prelude.{Option, Some, None, nat_lt}
use Rattle.std.specs.List.{list_all}
use Rattle.run_model.specs.declared.answers.Reply.{Reply}
use Rattle.run_model.specs.declared.commands.Step.{Step}
use Rattle.run_model.specs.declared.commands.Step.TheVariants as step
use Rattle.run_model.specs.declared.faults.Fault.{Fault}
use Rattle.run_model.specs.State.{State}
use Rattle.run_disk.specs.Disk.{DiskState}
use Rattle.book_model.specs.Books.{BookView}
use Rattle.book_model.specs.Steps.{StepsOn}
use Rattle.drive_nights.specs.Effects.{is_taken}
use Rattle.drive_nights.specs.Endings.{endings_of}
use Rattle.drive_nights.specs.Names.{is_short}
use Rattle.drive_nights.specs.Nights.{last_night}
use Rattle.drive_nights.specs.Openings.{opening_of}
use Rattle.drive_steps.specs.Rooms.{are_housed}
use Rattle.drive_runs.specs.declared.openings.Hindrance.{Hindrance}
use Rattle.drive_runs.specs.declared.openings.Hindrance.TheVariants as hindrance
use Rattle.drive_runs.specs.declared.sittings.Sitting.{Sitting}
use Rattle.drive_runs.specs.Faults.{first_fault}

-- What hinders a night: a fault, or that it isn't open.
abbrev pub hindered_by : Option Fault → (is_open : Bool) → Option Hindrance
hindered_by (Some fault) is_open = Some (hindrance.Fault fault)
hindered_by None true = None
hindered_by None false = Some hindrance.Full

-- The names of the groups leave room for the number of the night.
abbrev pub can_open : Sitting → Bool
can_open s =
    nat_lt s.kept.night (10 ^ 10)
    && list_all (λ group. is_short group s.kept.night) s.names.groups.items

-- The steps that open the night of a sitting.
abbrev pub opening_in : Sitting → State → List Step
opening_in s p = opening_of p s.kept.night s.names.groups.items s.untils.items s.all

-- The steps that end what is left of all nights but the last one of a store, and make that durable.
abbrev pub endings_in : State → List Step
endings_in p = endings_of p (last_night p) ++ step.Flush ∷ []

-- Those steps were played, and this is the first fault that they met.
pub record EndsOthers {D : Type 0} (state : D → DiskState) (old : BookView D)
    (fault : Option Fault) (new : BookView D) : Type 0 where
  pub replies : List Reply
  pub played : StepsOn state old (endings_in old.session.state) replies new
  pub found : fault ≡ first_fault replies

-- The steps of the opening were played and met no fault. Then what is left of other nights was
-- ended, whether or not a step of the opening was refused. The night is open if none was, and if
-- each group of the plan has a group of the store.
pub record OpensWhole {D : Type 0} (state : D → DiskState) (s : Sitting) (old : BookView D)
    (found : Option Hindrance) (new : BookView D) : Type 0 where
  pub replies : List Reply
  pub mid : BookView D
  pub opened : StepsOn state old (opening_in s old.session.state) replies mid
  pub sound : first_fault replies ≡ None
  pub fault : Option Fault
  pub ended : EndsOthers state mid fault new
  pub found_is : found
      ≡ hindered_by fault (list_all is_taken replies && are_housed new.session.state s.names)

-- A step of the opening met a fault, and nothing else was done.
pub record MeetsFault {D : Type 0} (state : D → DiskState) (s : Sitting) (old : BookView D)
    (found : Option Hindrance) (new : BookView D) : Type 0 where
  pub replies : List Reply
  pub opened : StepsOn state old (opening_in s old.session.state) replies new
  pub fault : Fault
  pub first : first_fault replies ≡ Some fault
  pub found_is : found ≡ Some (hindrance.Fault fault)

-- The night was opened, and this hinders it, if anything does. If a name leaves no room for the
-- number of the night, nothing was done.
abbrev pub Opens : {D : Type 0} → (D → DiskState) → Sitting → (old : BookView D)
    → Option Hindrance → (new : BookView D) → Type 0
Opens state s old found new =
    ((can_open s ≡ false) × (found ≡ Some hindrance.Full) × (new ≡ old))
    ⊎ MeetsFault state s old found new ⊎ OpensWhole state s old found new
