-- From what a call wrote, or where it stopped, to how a word ends.
use Rattle.std.specs.Prelude.{◌≡◌, ℕ, List, Option, Result, Ok, Err, IfErr}
use Rattle.std.specs.Prelude.{OnErr, OnOk}
use Rattle.std.specs.Io.KnownBytes.{Appends}
use Rattle.console_lines.specs.declared.faults.RunFault.{RunFault}
use Rattle.console_lines.specs.declared.faults.RunFault.TheVariants.{Output}
use Rattle.console_lines.specs.Progress.{WritesPart}
use Rattle.store_words.specs.Stores.{Prints}

-- What was written whole or in part was printed.
pub printed : {T : Type 0} (r : Result T RunFault) (text : List ℕ) (w0 w1 : Option (List ℕ))
    → OnOk r (Appends w0 w1 text) → OnErr r (WritesPart w0 w1 text)
    → IfErr r (λ why. why ≡ Output) → Prints text r w0 w1
printed (Ok done) text w0 w1 whole cut fault = whole
printed (Err why) text w0 w1 whole cut fault = (fault, cut)
