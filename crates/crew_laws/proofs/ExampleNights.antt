-- The two nights of the example.
use Rattle.run_model.proofs.Common.{◌++◌, ℕ, Bool, true, false, List, [], ◌∷◌}
use Rattle.run_model.proofs.Common.{Ok, Err, if◌then◌else◌, arith, inl, inr, refl}
use Rattle.run_model.proofs.Common.{codes, ◌==◌}
use Rattle.std.proofs.Common.{lit<}
use Rattle.run_model.specs.declared.refusals.Refusal.TheVariants.{NothingReady}
use Rattle.run_model.specs.declared.tasks.Outcome.TheVariants.{Success}
use Rattle.book_model.specs.Machines.{CrashesAt}
use Rattle.book_model.specs.ManyNights.{LeadsOver}
use Rattle.book_model.specs.Examples.Calls.{acked, flush, retry, submitted}
use Rattle.run_model.specs.declared.tasks.Phase.TheVariants.{Ready}
use Rattle.run_crew.specs.declared.jobs.Turn.TheVariants.{Finished}
use Rattle.run_crew.specs.declared.notes.Note.{Note}
use Rattle.run_crew.specs.Courses.{AreTurns, Call, Finish, Gate, Handles, IsCourse}
use Rattle.run_crew.specs.Courses.{Make, Report, Save, Scope, Start, Wake, round}
use Rattle.crew_laws.specs.Nights.{BeginsShift, Crewed, Did, Flushed, Follow, HaveTurn, IsNight}
use Rattle.crew_laws.specs.Nights.{Leads, Session, calls_of}
use Rattle.crew_laws.specs.Examples.{after_start, info_of, left, loaded, retried, retry_session}
use Rattle.crew_laws.specs.Examples.{start_of, up_to_turn}

-- ---- the calls of the workers

-- The calls, if they are of this worker.
abbrev chosen : Bool → List Call → List Call
chosen own [] = []
chosen own (made ∷ calls) = if own then made ∷ chosen own calls else chosen own calls

abbrev calls : ℕ → ℕ → Bool → List Call
calls event task done =
    Start (Ok (start_of event task done))
    ∷ Save event (Ok event)
    ∷ Handles 0 (codes "copy") true
    ∷ Gate task 0 true
    ∷ Scope task done
    ∷ Make 0 (info_of task) 0 done Finished
    ∷ []

abbrev note_of : ℕ → ℕ → Note
note_of event task = record { event = event; task = task; outcome = Success }

-- What would have come without the crash.
abbrev later : ℕ → ℕ → List Call
later event task =
    Finish task Success (Ok event) ∷ Report task ∷ Wake event ∷ Start (Err NothingReady) ∷ []

abbrev turns : ℕ → Bool → List Call
turns task done = round (info_of task) 0 0 done Finished

makes_one : (task : ℕ) (done : Bool) → AreTurns (info_of task) 0 (turns task done) Success
makes_one task done = inr (
  0,
  [],
  turns task done,
  lit< tt,
  refl,
  inr (inl (done, refl, refl)),
  refl,
)

one_course : (event task next : ℕ) (done : Bool)
    → IsCourse 1 (calls event task done ++ Finish task Success (Ok next) ∷ Report task
    ∷ Wake next ∷ [])
    (note_of next task)
one_course event task next done = (
  start_of event task done,
  event,
  Handles 0 (codes "copy") true ∷ turns task done,
  omega arith,
  inr (0, turns task done, lit< tt, makes_one task done, refl),
  refl,
  refl,
)

busy : (event task : ℕ) (done : Bool) → BeginsShift (calls event task done)
busy event task done = record {
  jobs = 1;
  notes = note_of event task ∷ [];
  later = later event task;
  shift = (
    calls event task done ++ Finish task Success (Ok event) ∷ Report task ∷ Wake event ∷ [],
    Start (Err NothingReady) ∷ [],
    (
      calls event task done ++ Finish task Success (Ok event) ∷ Report task ∷ Wake event ∷ [],
      [],
      one_course event task event done,
      refl,
      refl,
    ),
    inr (lit< tt, inl (inl (NothingReady, refl))),
    refl,
  );
}

idle : BeginsShift []
idle = record {
  jobs = 1;
  notes = [];
  later = Start (Err NothingReady) ∷ [];
  shift = (
    [],
    Start (Err NothingReady) ∷ [],
    refl,
    inr (lit< tt, inl (inl (NothingReady, refl))),
    refl,
  );
}

shifts : (event task : ℕ) (done : Bool) (worker : ℕ)
    → BeginsShift (calls_of worker (up_to_turn event task done))
shifts event task done worker = by (0 == worker)
  where
    by : (own : Bool) → BeginsShift (chosen own (calls event task done))
    by true = busy event task done
    by false = idle

-- ---- the nights

first_night : IsNight loaded (up_to_turn 5 0 false) (after_start loaded 5 0 false)
first_night = record {
  happen = (
    _,
    (inl refl, refl),
    (
      _,
      (inl refl, refl),
      (
        _,
        (refl, refl),
        (_, refl, (_, refl, (_, refl, (_, refl, refl)))),
      ),
    ),
  );
  shifts = shifts 5 0 false;
}

stops : CrashesAt (after_start loaded 5 0 false) [] left
stops = record {
  unreported = [];
  last = after_start loaded 5 0 false;
  takes = refl;
  prefix = record { many = 1; enough = omega arith; within = omega arith; reached = refl };
}

pub leads_left : Leads loaded (Crewed (up_to_turn 5 0 false) []) left
leads_left = (after_start loaded 5 0 false, first_night, stops)

pub has_turn : (event task : ℕ) (done : Bool) → HaveTurn (up_to_turn event task done) task
has_turn event task done = record {
  early = Did 0 (Start (Ok (start_of event task done)))
      ∷ Flushed (acked event)
      ∷ Did 0 (Save event (Ok event))
      ∷ Did 0 (Handles 0 (codes "copy") true)
      ∷ Did 0 (Gate task 0 true)
      ∷ Did 0 (Scope task done)
      ∷ [];
  deed = Did 0 (Make 0 (info_of task) 0 done Finished);
  late = [];
  worker = 0;
  number = 0;
  is_in = refl;
  turn = (refl, refl, refl);
}

retries : LeadsOver left ((retry 0, submitted 1 Ready) ∷ (flush, acked 7) ∷ []) [] retried
retries = record {
  unreported = [];
  further = [];
  lost = [];
  in_order = refl;
  reached = refl;
}

pub follows : Follow left 0 (Session retry_session ∷ []) retried 0
follows = (retried, 0, retries, refl, (refl, refl))

pub second_night : IsNight retried (up_to_turn 9 1 true) (after_start retried 9 1 true)
second_night = record {
  happen = (
    _,
    (inl refl, refl),
    (
      _,
      (inl refl, refl),
      (
        _,
        (refl, refl),
        (_, refl, (_, refl, (_, refl, (_, refl, refl)))),
      ),
    ),
  );
  shifts = shifts 9 1 true;
}
