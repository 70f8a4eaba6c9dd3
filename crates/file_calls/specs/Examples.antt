-- What the worked examples begin with.
use Rattle.std.specs.Prelude.{ℕ, true, false, List, [], ◌∷◌, None, Some}
use Rattle.file_calls.specs.declared.locks.Lock.{Lock}
use Rattle.file_calls.specs.declared.places.Place.TheVariants.{Durable}
use Rattle.file_calls.specs.Names.{NameStep, new_step}

-- A shared lock on file 7.
abbrev pub shared : (holder : ℕ) → Lock
shared holder = record { file = 7; holder = holder; is_alone = false }

-- A lock alone on file 7.
abbrev pub alone : (holder : ℕ) → Lock
alone holder = record { file = 7; holder = holder; is_alone = true }

-- A lock alone on file 9.
abbrev pub on_9 : (holder : ℕ) → Lock
on_9 holder = record { file = 9; holder = holder; is_alone = true }

-- File 1 has the durable name `s`. File 2 was created as `n`, and renamed to `s`.
abbrev pub renamed : List NameStep
renamed =
    record { name = 115 ∷ []; to = Some 1; place = Durable }
    ∷ new_step (110 ∷ []) (Some 2) ∷ new_step (115 ∷ []) (Some 2) ∷ new_step (110 ∷ []) None ∷ []
