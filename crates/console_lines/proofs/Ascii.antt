-- The line of a tally is ASCII, so it can be a `str`.
use Rattle.std.specs.Prelude.{◌≡◌, ℕ, ◌<◌, true, List, [], ◌∷◌, ◌++◌, codes}
use Rattle.std.specs.Fmt.{decimal}
use Rattle.std.specs.List.{list_all}
use Rattle.std.specs.Str.{IsAscii}
use Rattle.std.proofs.Common.{arith, refl}
use Rattle.std.proofs.lemmas.Fmt.{IsAscii-decimal}
use Rattle.std.proofs.lemmas.Str.{IsAscii-append}
use Rattle.std.proofs.lemmas.Str.Ascii.{IsAscii-cons, IsAscii-nil}
use Rattle.run_model.specs.Texts.{is_text_byte, IsName}
use Rattle.run_model.proofs.AsciiLemmas.{name_is_ascii, text_bytes_are_ascii}
use Rattle.console_lines.specs.declared.line_replies.LineReply.TheVariants as printed
use Rattle.console_lines.specs.declared.tallies.TaskCounts.{TaskCounts}
use Rattle.console_lines.specs.declared.tallies.JobTally.{JobTally}
use Rattle.console_lines.specs.Replies.{reply_line}

-- Each byte of it is below 128. As a record it names its bytes.
record IsPlain (bytes : List ℕ) : Type 0 where
  ascii : IsAscii bytes

both : (xs ys : List ℕ) → IsPlain xs → IsPlain ys → IsPlain (xs ++ ys)
both xs ys h k = record { ascii = IsAscii-append xs ys h.ascii k.ascii }

word : (bytes : List ℕ) → list_all is_text_byte bytes ≡ true → IsPlain bytes
word bytes h = record { ascii = text_bytes_are_ascii bytes h }

count : (bytes : List ℕ) (n : ℕ) → list_all is_text_byte bytes ≡ true → n < 65536
    → IsPlain (bytes ++ decimal n)
count bytes n h few =
    both bytes (decimal n) (word bytes h)
    (record { ascii = IsAscii-decimal n (omega (arith, few)) })

-- Each count fits into two bytes.
pub record AreCounts (counts : TaskCounts) : Type 0 where
  pub total : counts.total < 65536
  pub success : counts.success < 65536
  pub failure : counts.failure < 65536
  pub interrupted : counts.interrupted < 65536

-- The line of a tally is ASCII.
pub tally_is_ascii : (tally : JobTally) → IsName tally.job → AreCounts tally.counts
    → IsAscii (reply_line (printed.Tally tally))
tally_is_ascii tally name are =
    let job : IsPlain tally.job = record { ascii = name_is_ascii tally.job name } in
    let end : IsPlain (10 ∷ []) = record { ascii = IsAscii-cons 10 [] (omega arith) IsAscii-nil } in
    (both _ _ (both _ _ (both _ _ (both _ _ (both _ _ (both _ _ (word (codes "tally ") refl) job)
    (count (codes " total ") _ refl are.total)) (count (codes "; success ") _ refl are.success))
    (count (codes "; failure ") _ refl are.failure))
    (count (codes "; interrupted ") _ refl are.interrupted)) end).ascii
