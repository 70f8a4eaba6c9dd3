-- From what the parser answered to what its caller is told.
use Rattle.std.proofs.Common.{◌≡◌, ◌⊎◌, ◌∙◌, List, ap, inl, inr, refl, subst, sym, true}
use Rattle.std.specs.Prelude.{[], Result, Ok, Err, IfErr, IfOk}
use Rattle.clap.specs.Words.{App, HasKind, IsAmong, Kinds, Text, fault_of, is_simple}
use Rattle.clap.specs.Words.{is_simple_and_free, kind_of, subcommand_of, subcommand_rows_of}
use Rattle.clap.specs.declared.error.Error.{Error}
use Rattle.clap.proofs.OnLiterals.{clap_on_literals}
use Rattle.clap.specs.declared.error.kind.ErrorKind.{ErrorKind}
use Rattle.clap.specs.declared.error.kind.ErrorKind.TheVariants.{OutOfMemory}
use Rattle.clap.specs.declared.parser.matches.ArgMatches.{ArgMatches}
use Rattle.clap.specs.Simple.{HasMatchesOf}
use Rattle.night_words.specs.Commands.{night, Asks, AsksFor, IsAnswer, IsCausedBy, IsHelp, IsNamed}
use Rattle.night_words.specs.Commands.{IsShown, faults_of, named_by, named_in, new_by, new_in}
use Rattle.night_words.proofs.TakenLemmas.{taken, taken_asks, taken_fails, taken_is_named}
use Rattle.night_words.specs.declared.requests.Request.{Request}
use Rattle.night_words.specs.declared.requests.Request.TheVariants.{Help}
use Rattle.night_words.specs.declared.faults.WordsFault.{WordsFault}
use Rattle.night_words.specs.declared.faults.WordsFault.TheVariants.{Mistake, NotText, Memory}

-- the parser's statements on simple commands are about `night`
night_is_simple : is_simple_and_free night ≡ true
unfolding clap_on_literals
night_is_simple = refl

night_has_matches : is_simple night ≡ true
unfolding clap_on_literals
night_has_matches = refl

-- want of memory is no help
no_help : (kind : ErrorKind) → kind ≡ OutOfMemory → IsHelp kind → ⊥
no_help kind e (inl h) = cc
no_help kind e (inr h) = cc

-- what is shown of a kind is an answer where that kind may be found
shown_is_answer : (kind : ErrorKind) (kinds : Kinds) (r : Result Request WordsFault)
    → (kind ≡ OutOfMemory) ⊎ IsAmong kind kinds → IsShown kind r → IsAnswer kinds r
shown_is_answer kind kinds (Ok (Help text)) (inl e) shown = absurd (no_help kind e shown)
shown_is_answer kind kinds (Ok (Help text)) (inr among) shown = (kind, among, shown)
shown_is_answer kind kinds (Err (Mistake text)) (inl e) shown = absurd (shown.2 e)
shown_is_answer kind kinds (Err (Mistake text)) (inr among) shown = (kind, among, shown)
shown_is_answer kind kinds (Err Memory) found shown = tt
shown_is_answer kind kinds other found shown = absurd shown

-- where the command line is `night`, what is shown of the parser's error is an answer
pub error_is_answered : (a : App) (words : List Text) (e : Error) (r : Result Request WordsFault)
    → a ≡ night → (is_simple_and_free a ≡ true → HasKind (fault_of a words) e)
    → IsShown (kind_of e) r → IsAnswer (faults_of words) r
error_is_answered a words e r is_night found shown =
    let HasFault : App → Type 0 = λ b. HasKind (fault_of b words) e in
    let among = found (ap is_simple_and_free is_night ∙ night_is_simple) in
    shown_is_answer (kind_of e) (faults_of words) r (subst HasFault is_night among) shown

-- what is shown of an error is never a command
pub error_asks_nothing : (kind : ErrorKind) (words : List Text) (r : Result Request WordsFault)
    → IsShown kind r → IfOk r (λ asked. AsksFor asked words)
error_asks_nothing kind words (Ok (Help text)) shown = tt
error_asks_nothing kind words (Err fault) shown = tt
error_asks_nothing kind words other shown = absurd shown

-- and no mistake that the parser leaves to its caller
pub error_is_no_clash : (kind : ErrorKind) (words : List Text) (r : Result Request WordsFault)
    → IsShown kind r → IfErr r (λ why. IsCausedBy why words)
error_is_no_clash kind words (Ok asked) shown = tt
error_is_no_clash kind words (Err (Mistake text)) shown = tt
error_is_no_clash kind words (Err Memory) shown = tt
error_is_no_clash kind words (Err other) shown = absurd shown

-- ---- where the command line is `night`, and the parser has matches

module _ (a : App) (words : List Text) (m : ArgMatches) (is_night : a ≡ night)
    (found : is_simple_and_free a ≡ true → fault_of a words ≡ [])
    (matches : HasMatchesOf a words m) where
  -- nothing is found
  pub finds_nothing : faults_of words ≡ []
  finds_nothing = subst (λ b. fault_of b words ≡ []) is_night
      (found (ap is_simple_and_free is_night ∙ night_is_simple))

  -- what they name is what the definition names
  names_alike : subcommand_rows_of m ≡ subcommand_of night words
  names_alike = (matches (ap is_simple is_night ∙ night_has_matches)).1
      ∙ ap (λ b. subcommand_of b words) is_night

  -- so a command is named
  pub command_is_named : IsNamed (named_by m) (new_by m)
  command_is_named = subst (λ e. IsNamed (named_in e) (new_in e)) (sym names_alike)
      (taken_is_named words (taken words finds_nothing))

  -- and what is asked for of it, the words ask for
  pub command_is_asked : (r : Result Request WordsFault) → Asks (subcommand_rows_of m) r
      → IfOk r (λ asked. AsksFor asked words)
  command_is_asked (Ok asked) asks = taken_asks words asked (taken words finds_nothing)
      (subst (λ e. Asks e (Ok asked)) names_alike asks)
  command_is_asked (Err why) asks = tt

  -- or they are a mistake of their own
  pub command_is_cause : (r : Result Request WordsFault) → Asks (subcommand_rows_of m) r
      → IfErr r (λ why. IsCausedBy why words)
  command_is_cause (Ok asked) asks = tt
  command_is_cause (Err why) asks = taken_fails words why (taken words finds_nothing)
      (subst (λ e. Asks e (Err why)) names_alike asks)

  -- which is an answer
  pub command_is_answer : (r : Result Request WordsFault) → Asks (subcommand_rows_of m) r
      → IsAnswer (faults_of words) r
  command_is_answer (Ok (Help text)) asks = absurd asks
  command_is_answer (Err (Mistake text)) asks = absurd asks
  command_is_answer (Err NotText) asks = absurd asks
  command_is_answer (Err Memory) asks = absurd asks
  command_is_answer other asks = finds_nothing
