-- No two lines of a plan that a night takes are spelled alike.
use Rattle.std.specs.Prelude.{◌≡◌, ℕ, List, Option, Some, false, slice_get, true}
use Rattle.std.proofs.lemmas.Bool.{false≢true}
use Rattle.std.proofs.Common.{refl, ap, sym, ◌∙◌}
use Rattle.night_plan.specs.declared.commands.Group.{Group}
use Rattle.night_plan.specs.declared.commands.Need.{Need}
use Rattle.night_plan.specs.declared.commands.Subject.{Subject}
use Rattle.night_plan.specs.declared.commands.Subject.TheVariants as subject
use Rattle.night_plan.specs.declared.commands.Take.{Take}
use Rattle.night_plan.specs.declared.commands.Way.{Way}
use Rattle.night_plan.specs.declared.commands.Way.TheVariants as way
use Rattle.night_plan.specs.declared.commands.When.{When}
use Rattle.night_plan.specs.declared.commands.When.TheVariants as when
use Rattle.plan_lines.specs.declared.lines.Outline.{Outline}
use Rattle.plan_lines.specs.declared.lines.PlanLine.{PlanLine}
use Rattle.plan_lines.specs.declared.lines.PlanLine.TheVariants as line
use Rattle.plan_lines.specs.declared.tokens.Keyword.{Keyword}
use Rattle.plan_lines.specs.declared.tokens.Keyword.TheVariants as keyword
use Rattle.plan_lines.specs.declared.tokens.Token.{Token}
use Rattle.plan_lines.specs.declared.tokens.Token.TheVariants as token
use Rattle.plan_lines.specs.Lines.{Means, line_tokens, way_keyword, when_keyword}
use Rattle.plan_lines.proofs.Rows.{same_row}
use Rattle.drive_lines.specs.Phrases.{has_name, is_kept, plan_text, takes_name}
use Rattle.drive_lines.specs.Spaces.{first_of, spaced}
use Rattle.drive_lines.proofs.WordTexts.{is_word, words}

-- ---- a line by its tokens

-- A keyword that is none of a way, a need or a subject plays no part.
abbrev way_of : Keyword → Way
way_of keyword.GoOn = way.GoOn
way_of keyword.Stop = way.Stop
way_of _ = way.Cancel

way_again : (w : Way) → way_of (way_keyword w) ≡ w
way_again way.GoOn = refl
way_again way.Stop = refl
way_again way.Cancel = refl

abbrev when_of : Keyword → When
when_of keyword.Well = when.Well
when_of keyword.Failed = when.Failed
when_of _ = when.Ended

when_again : (w : When) → when_of (when_keyword w) ≡ w
when_again when.Well = refl
when_again when.Failed = refl
when_again when.Ended = refl

abbrev subject_of : Keyword → ℕ → Subject
subject_of keyword.Group n = subject.Group n
subject_of _ n = subject.Command n

-- The keyword or the number at a place of a line.
abbrev keyword_in : Option Token → Keyword
keyword_in (Some (token.Keyword k)) = k
keyword_in _ = keyword.Standings

abbrev number_in : Option Token → ℕ
number_in (Some (token.Number n)) = n
number_in _ = 0

abbrev line_by : Keyword → (keyword_at : ℕ → Keyword) → (number_at : ℕ → ℕ) → PlanLine
line_by keyword.Pool k n = line.Pool (n 1)
line_by keyword.Group k n = line.Group (record { priority = n 1; way = way_of (k 2) })
line_by keyword.Command k n =
    line.Command
    (record { group = n 1; priority = n 2; retries = n 3; wait = n 4; factor = n 5; cap = n 6 })
line_by keyword.Need k n =
    line.Need (record { when = when_of (k 1); of = subject_of (k 2) (n 3) })
line_by keyword.Take k n = line.Take (record { pool = n 1; amount = n 2 })
line_by keyword.Now k n = line.Now (n 1)
line_by keyword.Size k n = line.Size (n 1) (n 2)
line_by _ k n = line.Standings

abbrev line_of : List Token → PlanLine
line_of tokens =
    line_by (keyword_in (slice_get tokens 0)) (λ i. keyword_in (slice_get tokens i))
    (λ i. number_in (slice_get tokens i))

-- The lines of a plan that a night takes, alone or with a name.
abbrev pub IsTaken : PlanLine → Type 0
IsTaken (line.Pool size) = Unit {0}
IsTaken (line.Need need) = Unit {0}
IsTaken (line.Take t) = Unit {0}
IsTaken (line.Now moment) = Unit {0}
IsTaken (line.Size p size) = Unit {0}
IsTaken line.Standings = Unit {0}
IsTaken (line.Group g) = Unit {0}
IsTaken (line.Command o) = Unit {0}
IsTaken _ = ⊥

need_again : (w : When) (s : Subject)
    → line_of (line_tokens (line.Need (record { when = w; of = s })))
    ≡ line.Need (record { when = w; of = s })
need_again w (subject.Command c) =
    ap (λ (x : When). line.Need (record { when = x; of = subject.Command c })) (when_again w)
need_again w (subject.Group g) =
    ap (λ (x : When). line.Need (record { when = x; of = subject.Group g })) (when_again w)

line_again : (l : PlanLine) → IsTaken l → line_of (line_tokens l) ≡ l
line_again (line.Pool size) h = refl
line_again (line.Need need) h = need_again need.when need.of
line_again (line.Take t) h = refl
line_again (line.Now moment) h = refl
line_again (line.Size p size) h = refl
line_again line.Standings h = refl
line_again (line.Group g) h =
    ap (λ (x : Way). line.Group (record { priority = g.priority; way = x })) (way_again g.way)
line_again (line.Command o) h = refl
line_again (line.Done g) h = absurd h
line_again (line.Cancel c) h = absurd h
line_again (line.Stands c p) h = absurd h
line_again (line.Failed c moment failures) h = absurd h

same_tokens : (a b : PlanLine) → IsTaken a → IsTaken b → line_tokens a ≡ line_tokens b → a ≡ b
same_tokens a b h k e = sym (line_again a h) ∙ ap line_of e ∙ line_again b k

pub same_plan : (a b : PlanLine) (bytes : List ℕ) → IsTaken a → IsTaken b → Means bytes a
    → Means bytes b → a ≡ b
same_plan a b bytes h k one two =
    same_tokens a b h k (same_row (line_tokens a) (line_tokens b) bytes one.row two.row)

-- ---- lines that are kept, and lines with a name

each_kept : (P : PlanLine → Type 0) → ((size : ℕ) → P (line.Pool size))
    → ((need : Need) → P (line.Need need)) → ((t : Take) → P (line.Take t))
    → ((moment : ℕ) → P (line.Now moment)) → ((p size : ℕ) → P (line.Size p size))
    → P line.Standings → (l : PlanLine) → is_kept l ≡ true → P l
each_kept P pool need take now size standings (line.Pool n) h = pool n
each_kept P pool need take now size standings (line.Need x) h = need x
each_kept P pool need take now size standings (line.Take t) h = take t
each_kept P pool need take now size standings (line.Now moment) h = now moment
each_kept P pool need take now size standings (line.Size p n) h = size p n
each_kept P pool need take now size standings line.Standings h = standings
each_kept P pool need take now size standings (line.Group g) h = absurd (false≢true h)
each_kept P pool need take now size standings (line.Command o) h = absurd (false≢true h)
each_kept P pool need take now size standings (line.Done g) h = absurd (false≢true h)
each_kept P pool need take now size standings (line.Cancel c) h = absurd (false≢true h)
each_kept P pool need take now size standings (line.Stands c p) h = absurd (false≢true h)
each_kept P pool need take now size standings (line.Failed c m n) h = absurd (false≢true h)

each_named : (P : PlanLine → Type 0) → ((g : Group) → P (line.Group g))
    → ((o : Outline) → P (line.Command o)) → (l : PlanLine) → has_name l ≡ true → P l
each_named P group command (line.Group g) h = group g
each_named P group command (line.Command o) h = command o
each_named P group command (line.Pool size) h = absurd (false≢true h)
each_named P group command (line.Need need) h = absurd (false≢true h)
each_named P group command (line.Take t) h = absurd (false≢true h)
each_named P group command (line.Now moment) h = absurd (false≢true h)
each_named P group command (line.Size p size) h = absurd (false≢true h)
each_named P group command line.Standings h = absurd (false≢true h)
each_named P group command (line.Done g) h = absurd (false≢true h)
each_named P group command (line.Cancel c) h = absurd (false≢true h)
each_named P group command (line.Stands c p) h = absurd (false≢true h)
each_named P group command (line.Failed c m n) h = absurd (false≢true h)

pub kept_taken : (l : PlanLine) → is_kept l ≡ true → IsTaken l
kept_taken =
    each_kept IsTaken (λ size. tt) (λ need. tt) (λ t. tt) (λ moment. tt) (λ p size. tt) tt

pub named_taken : (l : PlanLine) → has_name l ≡ true → IsTaken l
named_taken = each_named IsTaken (λ g. tt) (λ o. tt)

-- The first word of a line that stays as it is takes no name. That of a group or a command does.
pub kept_no_name : (l : PlanLine) → is_kept l ≡ true → takes_name (first_of (plan_text l)) ≡ false
kept_no_name =
    each_kept (λ l. takes_name (first_of (plan_text l)) ≡ false) (λ size. refl) (λ need. refl)
    (λ t. refl) (λ moment. refl) (λ p size. refl) refl

pub named_takes_name : (l : PlanLine) (name : List ℕ) → has_name l ≡ true
    → takes_name (first_of (spaced (plan_text l) name)) ≡ true
named_takes_name l name =
    each_named (λ m. takes_name (first_of (spaced (plan_text m) name)) ≡ true) (λ g. refl)
    (λ o. refl) l

-- It is no word of another line.
pub kept_no_word : (l : PlanLine) → is_kept l ≡ true → is_word (first_of (plan_text l)) ≡ false
unfolding is_word words
kept_no_word =
    each_kept (λ l. is_word (first_of (plan_text l)) ≡ false) (λ size. refl) (λ need. refl)
    (λ t. refl) (λ moment. refl) (λ p size. refl) refl
