-- A line is read by its first word, and in one way.
use Rattle.std.specs.Prelude.{◌≡◌, ◌≤◌, ℕ, Bool, true, false, List, Option, Some, None, length}
use Rattle.std.specs.Prelude.{MatchOption}
use Rattle.std.proofs.Common.{sym, ap, subst, ◌∙◌}
use Rattle.run_model.specs.Texts.{IsName}
use Rattle.plan_lines.specs.declared.lines.PlanLine.{PlanLine}
use Rattle.plan_lines.specs.Lines.{Means}
use Rattle.drive_lines.specs.declared.fields.Fields.{Fields}
use Rattle.drive_lines.specs.declared.phrases.Phrase.{Phrase}
use Rattle.drive_lines.specs.declared.phrases.Phrase.TheVariants as phrase
use Rattle.drive_lines.specs.declared.words.LineWord.{LineWord}
use Rattle.drive_lines.specs.Cuts.{IsLastCut}
use Rattle.drive_lines.specs.Fields.{fields_shape, fields_text}
use Rattle.drive_lines.specs.Phrases.{FitsPhrase, IsNamedRead, IsOwnRead, Spells}
use Rattle.drive_lines.specs.Phrases.{plan_text, takes_name}
use Rattle.drive_lines.specs.Spaces.{after, first_of, rest_of, spaced}
use Rattle.drive_lines.specs.Words.{shape_of, word_text}
use Rattle.drive_lines.proofs.FieldTexts.{same_fields}
use Rattle.drive_lines.proofs.PlanTexts.{kept_no_name, kept_no_word, kept_taken, named_taken}
use Rattle.drive_lines.proofs.PlanTexts.{named_takes_name, same_plan}
use Rattle.drive_lines.proofs.Spaces.{first_of_after, name_no_space, rest_of_after}
use Rattle.drive_lines.proofs.Spaces.{same_head, same_last, whole_again}
use Rattle.drive_lines.proofs.WordTexts.{is_word, same_word, word_is_word, word_no_name}
use Rattle.drive_lines.proofs.WordTexts.{word_no_space}

-- ---- a group or a command, and its name

named_head : (l : PlanLine) (head name given line : List ℕ) → FitsPhrase (phrase.Named l given)
    → spaced (plan_text l) given ≡ line → IsLastCut line head name → Means head l
named_head l head name given line fits e cut =
    let both : spaced (plan_text l) given ≡ spaced head name = e ∙ sym cut.whole in
    let none = name_no_space given fits.2 in
    subst (λ (b : List ℕ). Means b l)
    (same_head (plan_text l) head given name none cut.last both) fits.1

named_name : (l : PlanLine) (head name given line : List ℕ) → FitsPhrase (phrase.Named l given)
    → spaced (plan_text l) given ≡ line → IsLastCut line head name → given ≡ name
named_name l head name given line fits e cut =
    same_last (plan_text l) head given name (name_no_space given fits.2) cut.last
    (e ∙ sym cut.whole)

pub head_unread : (line head name : List ℕ) → IsLastCut line head name
    → ((parsed : PlanLine) → Means head parsed → ⊥) → IsNamedRead line None
head_unread line head name cut none = λ l given fits e.
    none l (named_head l head name given line fits e cut)

pub name_unread : (line head name : List ℕ) → IsLastCut line head name → (IsName name → ⊥)
    → IsNamedRead line None
name_unread line head name cut none = λ l given fits e.
    none (subst IsName (named_name l head name given line fits e cut) fits.2)

-- ---- a line by its first word

own_first : (w : LineWord) (f : Fields) (line : List ℕ) → Spells (phrase.Own w f) line
    → first_of line ≡ word_text w
own_first w f line s =
    sym (ap first_of s.text) ∙ first_of_after (word_text w) (fields_text f) (word_no_space w)

own_rest : (w : LineWord) (f : Fields) (line : List ℕ) → Spells (phrase.Own w f) line
    → rest_of line ≡ fields_text f
own_rest w f line s =
    sym (ap rest_of s.text) ∙ rest_of_after (word_text w) (fields_text f) (word_no_space w)

own_no_name : (w : LineWord) (f : Fields) (line : List ℕ) → Spells (phrase.Own w f) line
    → takes_name (first_of line) ≡ false
own_no_name w f line s = ap takes_name (own_first w f line s) ∙ word_no_name w

own_word : (w : LineWord) (f : Fields) (line : List ℕ) → Spells (phrase.Own w f) line
    → is_word (first_of line) ≡ true
own_word w f line s = ap is_word (own_first w f line s) ∙ word_is_word w

plan_no_name : (l : PlanLine) (line : List ℕ) → Spells (phrase.Plan l) line
    → takes_name (first_of line) ≡ false
plan_no_name l line s =
    sym (ap (λ (b : List ℕ). takes_name (first_of b)) s.text) ∙ kept_no_name l s.fits.0

plan_no_word : (l : PlanLine) (line : List ℕ) → Spells (phrase.Plan l) line
    → is_word (first_of line) ≡ false
plan_no_word l line s =
    sym (ap (λ (b : List ℕ). is_word (first_of b)) s.text) ∙ kept_no_word l s.fits.0

named_has_name : (l : PlanLine) (name line : List ℕ) → Spells (phrase.Named l name) line
    → takes_name (first_of line) ≡ true
named_has_name l name line s =
    sym (ap (λ (b : List ℕ). takes_name (first_of b)) s.text) ∙ named_takes_name l name s.fits.0

both_ways : (b : Bool) → b ≡ true → b ≡ false → ⊥
both_ways b h k = cc

own_only : (line : List ℕ) (left : Option (List ℕ)) (w : LineWord) (p : Phrase)
    → takes_name (first_of line) ≡ false → word_text w ≡ first_of line → left ≡ rest_of line
    → IsOwnRead w left None → Spells p line → ⊥
own_only line left w (phrase.Plan l) is word rest none s =
    both_ways (is_word (first_of line)) (sym (ap is_word word) ∙ word_is_word w)
    (plan_no_word l line s)
own_only line left w (phrase.Named l name) is word rest none s =
    both_ways (takes_name (first_of line)) (named_has_name l name line s) is
own_only line left w (phrase.Own v f) is word rest none s =
    let same : v ≡ w = same_word v w (sym (own_first v f line s) ∙ sym word) in
    none f s.fits.0 (s.fits.1 ∙ ap shape_of same) (sym (own_rest v f line s) ∙ sym rest)

pub spelled_own : (line : List ℕ) (left : Option (List ℕ)) (w : LineWord) (r : Option Phrase)
    → length line ≤ 255 → takes_name (first_of line) ≡ false → word_text w ≡ first_of line
    → left ≡ rest_of line → IsOwnRead w left r
    → MatchOption r ((p : Phrase) → Spells p line → ⊥) (λ p. Spells p line)
spelled_own line left w None short is word rest none = λ p s.
    own_only line left w p is word rest none s
spelled_own line left w (Some (phrase.Plan l)) short is word rest read = absurd read
spelled_own line left w (Some (phrase.Named l name)) short is word rest read = absurd read
spelled_own line left w (Some (phrase.Own v f)) short is word rest read = record {
  short = short;
  fits = (read.1.0, read.1.1 ∙ ap shape_of (sym read.0));
  text =
      ap (λ (u : LineWord). after (word_text u) (fields_text f)) read.0
      ∙ ap (after (word_text w)) (read.1.2 ∙ rest)
      ∙ ap (λ (b : List ℕ). after b (rest_of line)) word
      ∙ whole_again line;
}

-- ---- no two phrases are spelled alike

means_line : (l : PlanLine) (line : List ℕ) → Spells (phrase.Plan l) line → Means line l
means_line l line s = subst (λ (b : List ℕ). Means b l) s.text s.fits.1

pub one_phrase : (p q : Phrase) (line : List ℕ) → Spells p line → Spells q line → p ≡ q
one_phrase (phrase.Plan l) (phrase.Plan m) line s t =
    ap phrase.Plan (same_plan l m line (kept_taken l s.fits.0) (kept_taken m t.fits.0)
    (means_line l line s) (means_line m line t))
one_phrase (phrase.Plan l) (phrase.Named m name) line s t =
    absurd (both_ways (takes_name (first_of line)) (named_has_name m name line t)
    (plan_no_name l line s))
one_phrase (phrase.Plan l) (phrase.Own w f) line s t =
    absurd (both_ways (is_word (first_of line)) (own_word w f line t) (plan_no_word l line s))
one_phrase (phrase.Named l name) (phrase.Plan m) line s t =
    absurd (both_ways (takes_name (first_of line)) (named_has_name l name line s)
    (plan_no_name m line t))
one_phrase (phrase.Named l name) (phrase.Named m other) line s t =
    let both : spaced (plan_text l) name ≡ spaced (plan_text m) other = s.text ∙ sym t.text in
    let a = name_no_space name s.fits.2 in
    let b = name_no_space other t.fits.2 in
    let heads : plan_text l ≡ plan_text m =
    same_head (plan_text l) (plan_text m) name other a b both in
    let names : name ≡ other = same_last (plan_text l) (plan_text m) name other a b both in
    let one : Means (plan_text m) l = subst (λ (x : List ℕ). Means x l) heads s.fits.1 in
    let plans : l ≡ m =
    same_plan l m (plan_text m) (named_taken l s.fits.0) (named_taken m t.fits.0) one t.fits.1 in
    cc
one_phrase (phrase.Named l name) (phrase.Own w f) line s t =
    absurd (both_ways (takes_name (first_of line)) (named_has_name l name line s)
    (own_no_name w f line t))
one_phrase (phrase.Own w f) (phrase.Plan m) line s t =
    absurd (both_ways (is_word (first_of line)) (own_word w f line s) (plan_no_word m line t))
one_phrase (phrase.Own w f) (phrase.Named m name) line s t =
    absurd (both_ways (takes_name (first_of line)) (named_has_name m name line t)
    (own_no_name w f line s))
one_phrase (phrase.Own w f) (phrase.Own v g) line s t =
    let words : w ≡ v = same_word w v (sym (own_first w f line s) ∙ own_first v g line t) in
    let rests : fields_text f ≡ fields_text g = sym (own_rest w f line s) ∙ own_rest v g line t in
    let shapes : fields_shape f ≡ fields_shape g =
    s.fits.1 ∙ ap shape_of words ∙ sym t.fits.1 in
    let fields = same_fields f g s.fits.0 t.fits.0 shapes rests in
    cc
