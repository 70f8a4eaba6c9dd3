-- How the tokens of a line are spelled: its numbers and keywords.
use Rattle.std.specs.Prelude.{◌≡◌, ◌<◌, ◌≤◌, ◌^◌, ℕ, List, codes, length, map}
use Rattle.std.specs.Fmt.{decimal}
use Rattle.std.specs.List.{All, join_with_byte}
use Rattle.plan_lines.specs.declared.tokens.Keyword.{Keyword}
use Rattle.plan_lines.specs.declared.tokens.Keyword.TheVariants as keyword
use Rattle.plan_lines.specs.declared.tokens.Token.{Token}
use Rattle.plan_lines.specs.declared.tokens.Token.TheVariants as token

-- The spelling of each keyword.
abbrev pub keyword_text : Keyword → List ℕ
keyword_text keyword.Pool = codes "pool"
keyword_text keyword.Group = codes "group"
keyword_text keyword.Command = codes "command"
keyword_text keyword.Need = codes "need"
keyword_text keyword.Take = codes "take"
keyword_text keyword.GoOn = codes "go-on"
keyword_text keyword.Stop = codes "stop"
keyword_text keyword.Cancel = codes "cancel"
keyword_text keyword.Well = codes "well"
keyword_text keyword.Failed = codes "failed"
keyword_text keyword.Ended = codes "ended"
keyword_text keyword.Now = codes "now"
keyword_text keyword.Size = codes "size"
keyword_text keyword.Done = codes "done"
keyword_text keyword.Fresh = codes "fresh"
keyword_text keyword.Busy = codes "busy"
keyword_text keyword.Ok = codes "ok"
keyword_text keyword.Interrupted = codes "interrupted"
keyword_text keyword.Cut = codes "cut"
keyword_text keyword.Standings = codes "standings"

-- A number is spelled in decimal digits, without leading zeros.
abbrev pub token_text : Token → List ℕ
token_text (token.Number n) = decimal n
token_text (token.Keyword k) = keyword_text k

-- A number has at most 12 digits.
abbrev pub IsShort : Token → Type 0
IsShort (token.Number n) = n < 10 ^ 12
IsShort (token.Keyword k) = Unit {0}

-- A line consists of these tokens: one to seven of them, with a single space between two of them.
pub record IsRow (tokens : List Token) (line : List ℕ) : Type 0 where
  pub some : 0 < length tokens
  pub few : length tokens ≤ 7
  pub short : All IsShort tokens
  pub text : join_with_byte 32 (map token_text tokens) ≡ line
