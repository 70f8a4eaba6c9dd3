-- A book over a new store, on a disk of which only the size and the counts are known, and the
-- results of steps over the book.
use Rattle.std.specs.Prelude.{ℕ, ◌-◌, ◌^◌, List, [], ◌∷◌, ◌++◌, true, false}
use Rattle.run_model.specs.declared.answers.Reply.{Reply}
use Rattle.run_model.specs.declared.commands.Step.{Step}
use Rattle.run_model.specs.declared.commands.Wish.TheVariants.{Cancel, Cause}
use Rattle.run_model.specs.declared.faults.Fault.TheVariants.{DiskFailed}
use Rattle.run_model.specs.declared.layouts.Layout.TheVariants.{Small}
use Rattle.run_model.specs.declared.refusals.Refusal.TheVariants.{Broken}
use Rattle.run_disk.specs.Disk.{DiskState}
use Rattle.run_disk.specs.Files.{file_state}
use Rattle.book_model.specs.Examples.Calls.{acked, checkpoint, derive, faulty, flush, refused}
use Rattle.book_model.specs.Examples.Calls.{scope_made}
use Rattle.book_model.specs.Examples.Nights.{new_store}
use Rattle.book_model.specs.Books.{BookView}
use Rattle.book_model.specs.Examples.Plays.{after_three, first_events, first_three, three_replies}

-- ---- a disk

-- How many calls of a disk were made, and how many of them failed.
pub record Counts : Type 0 where
  pub calls : ℕ
  pub failures : ℕ

-- A disk with the size of a small store and these counts. Nothing is known about its bytes.
abbrev pub state_of : Counts → DiskState
state_of d = file_state 1572864 d.calls d.failures

-- A disk that is one byte shorter.
abbrev pub short_state_of : Counts → DiskState
short_state_of d = file_state 1572863 d.calls d.failures

-- ---- books

-- The book over a new store after its opening, which made ten calls: there is one event, which is
-- acknowledged.
abbrev pub new_book : BookView Counts
new_book = record {
  session = new_store;
  durable = 1;
  journal = record {
    disk = record { calls = 10; failures = 0 };
    layout = Small;
    generation = 1;
    tail = 0;
    other_open = true;
    broken = false;
  };
  origin = record { calls = 0; failures = 0 };
}

-- The book after three commands.
abbrev pub book_after_three : BookView Counts
book_after_three = record new_book { session = record after_three { history = first_events } }

-- The same after a flush of them, by six calls.
abbrev pub flushed : BookView Counts
flushed = record book_after_three {
  durable = 4;
  journal = record new_book.journal { disk = record { calls = 16; failures = 0 }; tail = 31 };
}

-- The same after a flush whose first call failed.
abbrev pub failed : BookView Counts
failed = record book_after_three {
  journal = record new_book.journal { disk = record { calls = 11; failures = 1 }; broken = true };
}

-- The same after two batches, of one record and of two: twelve calls, and five bytes more.
abbrev pub flushed_twice : BookView Counts
flushed_twice = record book_after_three {
  durable = 4;
  journal = record new_book.journal { disk = record { calls = 22; failures = 0 }; tail = 36 };
}

-- The book after three commands, if no generation is left, and after a flush of them.
abbrev pub last_book : BookView Counts
last_book =
    record book_after_three { journal = record new_book.journal { generation = 2 ^ 63 - 1 } }

abbrev pub last_flushed : BookView Counts
last_flushed = record flushed { journal = record flushed.journal { generation = 2 ^ 63 - 1 } }

-- ---- steps

-- The first of the three commands.
abbrev pub first_command : Step
first_command = derive "a" "root" Cause

-- Three commands and a flush, and the replies to them if the flush succeeds.
abbrev pub first_call : List Step
first_call = first_three ++ flush ∷ []

abbrev pub first_replies : List Reply
first_replies = three_replies ++ acked 4 ∷ []

-- A scope and a checkpoint after these steps, and the replies if the device fails in the flush.
abbrev pub failing_call : List Step
failing_call = first_three ++ flush ∷ derive "c" "root" Cancel ∷ checkpoint ∷ []

abbrev pub failing_replies : List Reply
failing_replies =
    three_replies ++ faulty DiskFailed ∷ refused Broken ∷ refused Broken ∷ []

-- Two more scopes and a flush, and their replies.
abbrev pub second_call : List Step
second_call = derive "c" "root" Cancel ∷ derive "d" "root" Cancel ∷ flush ∷ []

abbrev pub second_replies : List Reply
second_replies = scope_made 3 ∷ scope_made 4 ∷ acked 6 ∷ []
