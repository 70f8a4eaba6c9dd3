-- A derive is refused for its wish only after it is refused for its names.
use Rattle.std.specs.Prelude.{◌≡◌, ℕ, Bool, true, false, not, ◌&&◌, if◌then◌else◌, List, ◌∷◌}
use Rattle.std.specs.Prelude.{Option, Some, None, Result, Ok, Err}
use Rattle.std.specs.List.{list_all}
use Rattle.std.specs.Option.{option_map, option_to_list}
use Rattle.std.proofs.Common.{refl, ap, sym, ◌∙◌}
use Rattle.run_model.specs.declared.commands.Wish.{Wish}
use Rattle.run_model.specs.declared.commands.Wish.TheVariants as wish
use Rattle.run_model.specs.declared.refusals.Refusal.{Refusal}
use Rattle.run_model.specs.declared.refusals.Refusal.TheVariants.{BadName, BadText}
use Rattle.run_model.specs.Texts.{is_name, is_text}
use Rattle.console_lines.specs.Numbers.{number_of}
use Rattle.console_lines.specs.Moments.{moment_of}
use Rattle.console_lines.specs.declared.line_requests.LineRequest.TheVariants.{Refused}
use Rattle.console_lines.specs.LineRequests.{Wished, wished, refused_after, judged, derived}
use Rattle.console_lines.specs.LineRequests.{asks_judged}
use Rattle.console_lines.specs.LineRequests.{asks_derive}
use Rattle.console_lines.specs.Checked.{names_in_wish, texts_in_wish}
use Rattle.console_lines.specs.LineRequests.{deadline_at, deadline_wish, timeout_wish, value_wish}
use Rattle.console_lines.specs.Words.{words_of, words_in, rest_of}
use Rattle.console_lines.proofs.WordLemmas.{rest_is}

-- The same order of tests, in one step and in two.
after_names :
    (a b n t : Bool) (name parent : List ℕ) (wish : Result Wish Refusal)
    → (if not (a && (b && true)) then Refused BadName
    else derived name parent (if not n then Err BadName else if not t then Err BadText else wish))
    ≡ (if not (a && (b && n)) then Refused BadName
    else if not t then Refused BadText
    else derived name parent wish)
after_names false b n t name parent wish = refl
after_names true false n t name parent wish = refl
after_names true true false t name parent wish = refl
after_names true true true false name parent wish = refl
after_names true true true true name parent wish = refl

-- A wish that was checked is refused after the names.
pub judged_after_names :
    (name parent : List ℕ) (w : Wished)
    → asks_judged name parent (judged w) ≡ asks_derive name parent w
judged_after_names name parent (wished wish) =
    after_names (is_name name) (is_name parent) (list_all is_name (names_in_wish wish))
    (list_all is_text (texts_in_wish wish)) name parent (Ok wish)
judged_after_names name parent (refused_after cause why) =
    after_names (is_name name) (is_name parent) true (list_all is_text (option_to_list cause))
    name parent (Err why)

-- A derive with a wish.
pub derive_wished :
    (name parent : List ℕ) (o : Option Wished) (r : Result Wish Refusal)
    → Some r ≡ option_map judged o
    → Some (asks_judged name parent r) ≡ option_map (asks_derive name parent) o
derive_wished name parent None r e = cc
derive_wished name parent (Some w) r e =
    let same : r ≡ judged w = cc in
    ap Some (ap (asks_judged name parent) same ∙ judged_after_names name parent w)

-- ---- wishes that are read

-- A deadline has the rest of its line as its cause.
pub deadline_read :
    (word : List ℕ) (cause : Option (List ℕ)) (moment : Result ℕ Refusal)
    → Some moment ≡ moment_of word
    → Some (judged (deadline_at cause moment))
    ≡ option_map judged (deadline_wish (word ∷ words_in cause))
deadline_read word cause moment h =
    ap (λ t. Some (judged (deadline_at t moment))) (sym (rest_is cause))
    ∙ ap (λ o. option_map judged (option_map (deadline_at (rest_of (words_in cause))) o)) h

-- The cause of a timeout is the rest of its line, too.
pub timeout_read :
    (word : List ℕ) (cause : Option (List ℕ)) (seconds : ℕ)
    → Some seconds ≡ number_of word
    → Some (judged (wished (wish.Timeout seconds cause)))
    ≡ option_map judged (timeout_wish (word ∷ words_in cause))
timeout_read word cause seconds h =
    let at : Option (List ℕ) → ℕ → Wished = λ t n. wished (wish.Timeout n t) in
    ap (λ t. Some (judged (at t seconds))) (sym (rest_is cause))
    ∙ ap (λ o. option_map judged (option_map (at (rest_of (words_in cause))) o)) h

-- The text of a value is the rest of its line.
pub value_read :
    (key text : List ℕ)
    → Some (judged (wished (wish.Value key text)))
    ≡ option_map judged (value_wish (key ∷ words_of text))
value_read key text =
    let with_text : List ℕ → Wished = λ t. wished (wish.Value key t) in
    ap (λ o. option_map judged (option_map with_text o)) (sym (rest_is (Some text)))
