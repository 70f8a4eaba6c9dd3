-- A strict run of lines: it ends after the first rejected line.
use Rattle.std.specs.Prelude.{ℕ, ◌+◌, ◌-◌, ◌==◌, ◌&&◌, nat_le, Bool, if◌then◌else◌, List, [], ◌∷◌}
use Rattle.std.specs.Prelude.{◌++◌, length, slice_index, codes, Option, Some, None, is_some}
use Rattle.std.specs.Fmt.{decimal}
use Rattle.std.specs.Option.{option_map_or, option_or}
use Rattle.run_model.specs.declared.answers.Reply.TheVariants as answered
use Rattle.run_model.specs.Session.{Session}
use Rattle.console_lines.specs.declared.lines.TheConstants.{LONGEST_LINE}
use Rattle.console_lines.specs.declared.line_replies.LineReply.{LineReply}
use Rattle.console_lines.specs.declared.line_replies.LineReply.TheVariants as printed
use Rattle.console_lines.specs.declared.rejections.Rejection.{Rejection}
use Rattle.console_lines.specs.declared.rejections.Rejection.TheVariants as rejection
use Rattle.console_lines.specs.declared.rejections.RejectedLine.{RejectedLine}
use Rattle.console_lines.specs.LineRequests.{request_of}
use Rattle.console_lines.specs.Lines.{lines_of}
use Rattle.console_lines.specs.Replies.{reply_text}
use Rattle.console_lines.specs.Script.{after_line, after_lines, closing, replies, replies_to}

-- A reply rejects its line if it is a bad line or a refusal; no other reply does.
abbrev pub rejection_of : LineReply → Option Rejection
rejection_of printed.BadLine = Some rejection.BadLine
rejection_of (printed.Refused why) = Some (rejection.Refused why)
rejection_of (printed.Step (answered.Refused why)) = Some (rejection.Refused why)
rejection_of _ = None

-- The first rejection in these replies.
abbrev pub rejection_among : List LineReply → Option Rejection
rejection_among [] = None
rejection_among (reply ∷ replies) = option_or (rejection_of reply) (rejection_among replies)

-- Whether the last byte of a line is a carriage return. For a line that is too long, this isn't
-- known.
abbrev pub ends_in_return : List ℕ → Bool
ends_in_return line =
    nat_le (length line) LONGEST_LINE && (slice_index line (length line - 1) == 13)

-- Why a line is rejected, given the rejection in its replies. A bad line that ends with a carriage
-- return is reported as such.
abbrev pub rejection_by : Option Rejection → List ℕ → Option Rejection
rejection_by None line = None
rejection_by (Some rejection.BadLine) line =
    if ends_in_return line then Some rejection.CarriageReturn else Some rejection.BadLine
rejection_by (Some rejection.CarriageReturn) line = Some rejection.CarriageReturn
rejection_by (Some (rejection.Refused why)) line = Some (rejection.Refused why)

-- A line is rejected if one of its replies rejects it.
unfoldable pub rejection_at : Session → List ℕ → Option Rejection
rejection_at s line = rejection_by (rejection_among (replies_to s (request_of line))) line

-- The first rejected line among these, with its number, if the first of them has this number. An
-- empty line counts, too.
abbrev pub rejection_from : ℕ → Session → List (List ℕ) → Option RejectedLine
rejection_from n s [] = None
rejection_from n s (line ∷ lines) =
    option_map_or (λ why. Some (record { number = n; why = why })) (rejection_at s line)
    (rejection_from (n + 1) (after_line s line) lines)

-- The first rejected line of an input. The first line has the number 1.
abbrev pub rejection_in : Session → List ℕ → Option RejectedLine
rejection_in s bytes = rejection_from 1 s (lines_of bytes)

-- These lines up to the first rejected one, or all of them if none is rejected.
abbrev pub strict_lines : Session → List (List ℕ) → List (List ℕ)
strict_lines s [] = []
strict_lines s (line ∷ lines) =
    line ∷ (if is_some (rejection_at s line) then [] else strict_lines (after_line s line) lines)

-- The lines of an input that a strict run runs.
abbrev pub strict_lines_of : Session → List ℕ → List (List ℕ)
strict_lines_of s bytes = strict_lines s (lines_of bytes)

-- Everything that is written for an input in a strict run: the replies to these lines, and the last
-- line.
abbrev pub strict_script : Session → List ℕ → List ℕ
strict_script s bytes =
    replies s (strict_lines_of s bytes) ++ closing (after_lines s (strict_lines_of s bytes))

-- The reply to a rejected line.
abbrev pub rejection_reply : Rejection → LineReply
rejection_reply rejection.BadLine = printed.BadLine
rejection_reply rejection.CarriageReturn = printed.BadLine
rejection_reply (rejection.Refused why) = printed.Refused why

-- A rejected line is shown as its number and its reply, as in `line 7: refused 12 AlreadyDone`.
abbrev pub rejection_text : RejectedLine → List ℕ
rejection_text line =
    codes "line " ++ decimal line.number ++ codes ": " ++ reply_text (rejection_reply line.why)
