-- A run over an input: line after line, and where it ends or stops.
use Rattle.std.specs.Prelude.{◌≡◌, ◌≤◌, ◌+◌, ◌-◌, ◌^◌, ◌++◌, ◌∷◌, ℕ, suc}
use Rattle.std.specs.Prelude.{List, [], Option, Ok, Err, length, take}
use Rattle.std.specs.Io.KnownBytes.{Appends, Consumes, IsAtEnd}
use Rattle.std.proofs.Common.{arith, inl, inr, refl, sym, ap, subst, ◌∙◌, append_assoc}
use Rattle.std.proofs.Common.{add-zero, append-nil}
use Rattle.std.proofs.lemmas.Bool.{cases_lt}
use Rattle.std.proofs.lemmas.Bool.Decides.{nat_tests}
use Rattle.std.proofs.lemmas.List.{length-append, length-take-le, take_all}
use Rattle.std.proofs.lemmas.List.Concat.{flat_map-append}
use Rattle.console_lines.specs.declared.faults.RunFault.{RunFault}
use Rattle.console_lines.specs.declared.faults.RunFault.TheVariants as fault
use Rattle.console_lines.specs.Lines.{whole_lines, open_line}
use Rattle.console_lines.proofs.Splits.{line_ends, open_line-append, whole_lines-append}
use Rattle.console_lines.proofs.Written.{appends_nothing, appends_then, consumes_nothing}
use Rattle.console_lines.proofs.Written.{consumes_then}
use Rattle.plan_lines.specs.declared.answers.AnswerLine.{AnswerLine}
use Rattle.plan_lines.specs.declared.drafts.Draft.{Draft}
use Rattle.plan_lines.specs.declared.lines.PlanLine.{PlanLine}
use Rattle.plan_lines.specs.declared.runs.Next.{Next}
use Rattle.plan_lines.specs.declared.runs.Next.TheVariants as next
use Rattle.plan_lines.specs.declared.runs.RunEnd.{RunEnd}
use Rattle.plan_lines.specs.declared.runs.RunEnd.TheVariants as end
use Rattle.plan_lines.specs.declared.runs.InputPart.{InputPart}
use Rattle.plan_lines.specs.declared.runs.InputPart.TheVariants as part
use Rattle.plan_lines.specs.Answers.{answer_line, answer_lines}
use Rattle.plan_lines.specs.Drafts.{IsNew}
use Rattle.plan_lines.specs.Lines.{Means}
use Rattle.plan_lines.specs.Reading.{IsOfInput, ReadsLine, ReadsNoLine}
use Rattle.plan_lines.specs.Runs.{Answers, BreaksOff, IsAfterLines, RunEnds, RunStops, RunsOver}
use Rattle.plan_lines.specs.Runs.{StopsOver, TakesLine}
use Rattle.plan_lines.proofs.Reading.{open_of_none}

-- ---- lines that were cut are bad

means_cut : (bytes : List ℕ) (parsed : PlanLine) → Means (take 256 bytes) parsed
    → take 256 bytes ≡ bytes
means_cut bytes parsed means = elim (cases_lt 256 (length bytes)) [
  | inl long ↦
      let size = length-take-le 256 bytes (omega (arith, long)) in
      absurd (omega (arith, size, means.short))
  | inr short ↦ take_all 256 bytes short
]

fits_cut : (bytes : List ℕ) (parsed : PlanLine) → Means bytes parsed → take 256 bytes ≡ bytes
fits_cut bytes parsed means = take_all 256 bytes (omega (arith, means.short))

-- So a line is taken as what is returned of it.
pub takes_cut : (s : InputPart) (n : ℕ) (bytes : List ℕ) (after : Next) (lines : List AnswerLine)
    → TakesLine s n (take 256 bytes) after lines → TakesLine s n bytes after lines
takes_cut s n [] after lines h = h
takes_cut s n (b ∷ bytes) after lines (inl h) =
    inl (h.0, subst (λ (l : List ℕ). Means l h.0) (means_cut (b ∷ bytes) h.0 h.1) h.1, h.2)
takes_cut s n (b ∷ bytes) after lines (inr h) =
    inr (
      λ parsed means. h.0 parsed
          (subst (λ (l : List ℕ). Means l parsed) (sym (fits_cut (b ∷ bytes) parsed means)) means),
      h.1,
    )

-- No line ends the input.
not_ended : (s : InputPart) (n : ℕ) (bytes : List ℕ) (lines : List AnswerLine)
    → TakesLine s n bytes (next.End end.InputEnded) lines → ⊥
not_ended (part.Plan d) n [] lines (inl h) = h.2
not_ended (part.Plan d) n [] lines (inr h) = h.2
not_ended (part.Round r) n [] lines (inl h) = h.2
not_ended (part.Round r) n [] lines (inr h) = h.2
not_ended (part.Plan d) n (b ∷ bytes) lines (inl h) = h.2
not_ended (part.Plan d) n (b ∷ bytes) lines (inr h) = h.1
not_ended (part.Round r) n (b ∷ bytes) lines (inl h) = h.2
not_ended (part.Round r) n (b ∷ bytes) lines (inr h) = h.1

-- What was written of the answer to a line that broke off.
breaks : (why : RunFault) (s : InputPart) (n : ℕ) (bytes : List ℕ) (w0 w1 : Option (List ℕ))
    → Answers (TakesLine s n (take 256 bytes)) (Err why) w0 w1
    → (text : List ℕ) × BreaksOff why s n bytes text × Appends w0 w1 text
breaks fault.Output s n bytes w0 w1 h =
    (h.3, (h.0, h.1, takes_cut s n bytes h.0 h.1 h.2, h.4), h.5)
breaks fault.Memory s n bytes w0 w1 h =
    ([], refl, subst (λ (w : Option (List ℕ)). Appends w0 w []) (sym h) (appends_nothing w0))
breaks fault.Input s n bytes w0 w1 h = absurd h
breaks fault.InputTooLong s n bytes w0 w1 h = absurd h
breaks (fault.Store why) s n bytes w0 w1 h = absurd h

-- It isn't the length of the input that breaks it off.
not_too_long : (why : RunFault) (s : InputPart) (n : ℕ) (bytes : List ℕ) (w0 w1 : Option (List ℕ))
    → Answers (TakesLine s n bytes) (Err why) w0 w1 → why ≡ fault.InputTooLong → ⊥
not_too_long fault.Output s n bytes w0 w1 h is = cc
not_too_long fault.Memory s n bytes w0 w1 h is = cc
not_too_long fault.Input s n bytes w0 w1 h is = absurd h
not_too_long fault.InputTooLong s n bytes w0 w1 h is = absurd h
not_too_long (fault.Store why) s n bytes w0 w1 h is = absurd h

-- ---- lines that were taken

-- These lines were taken, and none of them ended the run.
abbrev pub TakesAll : InputPart → ℕ → List (List ℕ) → InputPart → List AnswerLine → Type 0
TakesAll s n [] t lines = (t ≡ s) × (lines ≡ [])
TakesAll s n (line ∷ input) t lines =
    (m : InputPart) × (first rest : List AnswerLine) × TakesLine s n line (next.Part m) first
    × TakesAll m (n + 1) input t rest × (lines ≡ first ++ rest)

moved : (n k : ℕ) → n + 1 + k ≡ n + suc k
moved n k = omega arith

-- One line more.
takes_one_more : (s : InputPart) (n : ℕ) (input : List (List ℕ)) (t u : InputPart) (line : List ℕ)
    (xs ys : List AnswerLine) → TakesAll s n input t xs
    → TakesLine t (n + length input) line (next.Part u) ys
    → TakesAll s n (input ++ line ∷ []) u (xs ++ ys)
takes_one_more s n [] t u line xs ys all one = (
  u,
  ys,
  [],
  subst (λ (m : ℕ). TakesLine s m line (next.Part u) ys) (add-zero n)
      (subst (λ (r : InputPart). TakesLine r (n + 0) line (next.Part u) ys) all.0 one),
  (refl, refl),
  ap (λ (l : List AnswerLine). l ++ ys) all.1 ∙ sym (append-nil ys),
)
takes_one_more s n (x ∷ input) t u line xs ys all one = (
  all.0,
  all.1,
  all.2 ++ ys,
  all.3,
  takes_one_more all.0 (n + 1) input t u line all.2 ys all.4
      (subst (λ (m : ℕ). TakesLine t m line (next.Part u) ys) (sym (moved n (length input))) one),
  ap (λ (l : List AnswerLine). l ++ ys) all.5 ∙ append_assoc all.1 all.2 ys,
)

-- The run goes on over the lines after them.
runs_then : (s : InputPart) (n : ℕ) (input more : List (List ℕ)) (t : InputPart) (stop : RunEnd)
    (xs ys : List AnswerLine) → TakesAll s n input t xs
    → RunsOver t (n + length input) more stop ys → RunsOver s n (input ++ more) stop (xs ++ ys)
runs_then s n [] more t stop xs ys all rest =
    let here : RunsOver s n more stop ys =
    subst (λ (m : ℕ). RunsOver s m more stop ys) (add-zero n)
    (subst (λ (r : InputPart). RunsOver r (n + 0) more stop ys) all.0 rest) in
    subst (RunsOver s n more stop) (sym (ap (λ (l : List AnswerLine). l ++ ys) all.1)) here
runs_then s n (x ∷ input) more t stop xs ys all rest =
    inr (
      all.0,
      all.1,
      all.2 ++ ys,
      all.3,
      runs_then all.0 (n + 1) input more t stop all.2 ys all.4
          (subst (λ (m : ℕ). RunsOver t m more stop ys) (sym (moved n (length input))) rest),
      ap (λ (l : List AnswerLine). l ++ ys) all.5 ∙ append_assoc all.1 all.2 ys,
    )

-- Or it stops at one of them.
stops_then : (why : RunFault) (s : InputPart) (n : ℕ) (input more : List (List ℕ)) (t : InputPart)
    (xs : List AnswerLine) (text : List ℕ) → TakesAll s n input t xs
    → StopsOver why t (n + length input) more text
    → StopsOver why s n (input ++ more) (answer_lines xs ++ text)
stops_then why s n [] more t xs text all rest =
    let here : StopsOver why s n more text =
    subst (λ (m : ℕ). StopsOver why s m more text) (add-zero n)
    (subst (λ (r : InputPart). StopsOver why r (n + 0) more text) all.0 rest) in
    subst (StopsOver why s n more)
    (sym (ap (λ (l : List AnswerLine). answer_lines l ++ text) all.1)) here
stops_then why s n (x ∷ input) more t xs text all rest =
    inr (
      all.0,
      all.1,
      answer_lines all.2 ++ text,
      all.3,
      stops_then why all.0 (n + 1) input more t all.2 text all.4
          (subst (λ (m : ℕ). StopsOver why t m more text) (sym (moved n (length input))) rest),
      ap (λ (l : List AnswerLine). answer_lines l ++ text) all.5
          ∙ ap (λ (l : List ℕ). l ++ text) (flat_map-append answer_line all.1 all.2)
          ∙ append_assoc (answer_lines all.1) (answer_lines all.2) text,
    )

-- ---- bytes that were read

-- Of the bytes that were read, those up to the last LF that was returned were taken, and the others
-- are held.
pub record HasRun (held : List ℕ) (number : ℕ) (s : InputPart) (r0 r1 w0 w1 : Option (List ℕ))
    : Type 0 where
  pub bytes : List ℕ
  pub read : Consumes r0 r1 bytes
  pub prefix : List ℕ
  pub parts : bytes ≡ prefix ++ held
  pub closed : open_line [] prefix ≡ []
  pub first : Draft
  pub none_yet : IsNew first
  pub lines : List AnswerLine
  pub taken : TakesAll (part.Plan first) 1 (whole_lines [] prefix) s lines
  pub count : number ≡ 1 + length (whole_lines [] prefix)
  pub written : Appends w0 w1 (answer_lines lines)

pub begun : (held : List ℕ) (first : Draft) (r w : Option (List ℕ)) → held ≡ [] → IsNew first
    → HasRun held 1 (part.Plan first) r r w w
begun held first r w none new = record {
  bytes = [];
  read = consumes_nothing r;
  prefix = [];
  parts = sym none;
  closed = refl;
  first = first;
  none_yet = new;
  lines = [];
  taken = (refl, refl);
  count = refl;
  written = appends_nothing w;
}

-- The lines of what was taken, and of what comes after it.
lines_after : (prefix text : List ℕ) → open_line [] prefix ≡ []
    → whole_lines [] (prefix ++ text) ≡ whole_lines [] prefix ++ whole_lines [] text
lines_after prefix text closed =
    whole_lines-append [] prefix text
    ∙ ap (λ (l : List ℕ). whole_lines [] prefix ++ whole_lines l text) closed

-- The next line, and those after its LF.
line_first : (text rest : List ℕ) → whole_lines [] text ≡ []
    → whole_lines [] (text ++ 10 ∷ rest) ≡ text ∷ whole_lines [] rest
line_first text rest none =
    whole_lines-append [] text (10 ∷ rest)
    ∙ ap (λ (l : List (List ℕ)). l ++ whole_lines (open_line [] text) (10 ∷ rest)) none
    ∙ ap (λ (l : List ℕ). whole_lines l (10 ∷ rest)) (open_of_none [] text none)

-- All bytes that were read, if these come after them.
read_on : (bytes prefix held more : List ℕ) → bytes ≡ prefix ++ held
    → bytes ++ more ≡ prefix ++ (held ++ more)
read_on bytes prefix held more parts =
    ap (λ (l : List ℕ). l ++ more) parts ∙ append_assoc prefix held more

module _ {held new line : List ℕ} {number : ℕ} {s : InputPart}
    {r0 r1 r2 w0 w1 : Option (List ℕ)} where
  -- All lines, if a line was read.
  all_lines : (run : HasRun held number s r0 r1 w0 w1) (reads : ReadsLine held new r1 r2 line)
      → whole_lines [] (run.bytes ++ reads.bytes)
      ≡ whole_lines [] run.prefix ++ reads.text ∷ whole_lines [] new
  all_lines run reads =
      ap (whole_lines [])
      (read_on run.bytes run.prefix held reads.bytes run.parts
      ∙ ap (λ (l : List ℕ). run.prefix ++ l) reads.parts)
      ∙ lines_after run.prefix (reads.text ++ 10 ∷ new) run.closed
      ∙ ap (λ (l : List (List ℕ)). whole_lines [] run.prefix ++ l)
      (line_first reads.text new reads.whole)

module _ {held new line : List ℕ} {number : ℕ} {s : InputPart} {r0 r1 r2 w0 w1 w2 : Option (List ℕ)}
  where
    -- A line was taken, and the run goes on.
    pub line_taken : (t : InputPart) → HasRun held number s r0 r1 w0 w1
        → ReadsLine held new r1 r2 line
        → Answers (TakesLine s number line) (Ok (next.Part t)) w1 w2
        → HasRun new (number + 1) t r0 r2 w0 w2
    line_taken t run reads answer =
        let text = reads.text in
        let lines = whole_lines [] run.prefix in
        let one : whole_lines [] (run.prefix ++ (text ++ 10 ∷ [])) ≡ lines ++ text ∷ [] =
        lines_after run.prefix (text ++ 10 ∷ []) run.closed
        ∙ ap (λ (l : List (List ℕ)). lines ++ l) (line_first text [] reads.whole) in
        let takes : TakesLine s (1 + length lines) text (next.Part t) answer.0 =
        subst (λ n. TakesLine s n text (next.Part t) answer.0) run.count
        (takes_cut s number text (next.Part t) answer.0
        (subst (λ (l : List ℕ). TakesLine s number l (next.Part t) answer.0) reads.returned
        answer.1)) in
        record {
          bytes = run.bytes ++ reads.bytes;
          read = consumes_then r0 r1 r2 run.bytes reads.bytes run.read reads.read;
          prefix = run.prefix ++ (text ++ 10 ∷ []);
          parts =
              read_on run.bytes run.prefix held reads.bytes run.parts
              ∙ ap (λ (l : List ℕ). run.prefix ++ l)
              (reads.parts ∙ sym (append_assoc text (10 ∷ []) new))
              ∙ sym (append_assoc run.prefix (text ++ 10 ∷ []) new);
          closed =
              open_line-append [] run.prefix (text ++ 10 ∷ [])
              ∙ (line_ends (open_line [] run.prefix) text).1;
          first = run.first;
          none_yet = run.none_yet;
          lines = run.lines ++ answer.0;
          taken =
              subst
              (λ (l : List (List ℕ)). TakesAll (part.Plan run.first) 1 l t (run.lines ++ answer.0))
              (sym one)
              (takes_one_more (part.Plan run.first) 1 lines s t text run.lines answer.0 run.taken
              takes);
          count = omega (arith, run.count, ap length one, length-append lines (text ∷ []));
          written =
              subst (Appends w0 w2) (sym (flat_map-append answer_line run.lines answer.0))
              (appends_then w0 w1 w2 (answer_lines run.lines) (answer_lines answer.0) run.written
              answer.2);
        }

    -- A line has ended the run.
    pub line_ends_run : (stop : RunEnd) → HasRun held number s r0 r1 w0 w1
        → ReadsLine held new r1 r2 line
        → Answers (TakesLine s number line) (Ok (next.End stop)) w1 w2
        → RunEnds stop r0 r2 w0 w2
    line_ends_run stop run reads answer =
        let text = reads.text in
        let lines = whole_lines [] run.prefix in
        let takes : TakesLine s (1 + length lines) text (next.End stop) answer.0 =
        subst (λ n. TakesLine s n text (next.End stop) answer.0) run.count
        (takes_cut s number text (next.End stop) answer.0
        (subst (λ (l : List ℕ). TakesLine s number l (next.End stop) answer.0) reads.returned
        answer.1)) in
        record {
          bytes = run.bytes ++ reads.bytes;
          read = consumes_then r0 r1 r2 run.bytes reads.bytes run.read reads.read;
          first = run.first;
          none_yet = run.none_yet;
          lines = run.lines ++ answer.0;
          runs =
              subst
              (λ (l : List (List ℕ)).
              RunsOver (part.Plan run.first) 1 l stop (run.lines ++ answer.0))
              (sym (all_lines run reads))
              (runs_then (part.Plan run.first) 1 lines (text ∷ whole_lines [] new) s stop run.lines
              answer.0 run.taken (inl takes));
          ended = λ is.
              absurd (not_ended s number line answer.0
              (subst (λ (e : RunEnd). TakesLine s number line (next.End e) answer.0) is answer.1));
          written =
              subst (Appends w0 w2) (sym (flat_map-append answer_line run.lines answer.0))
              (appends_then w0 w1 w2 (answer_lines run.lines) (answer_lines answer.0) run.written
              answer.2);
        }

    -- A fault has stopped the run at a line.
    pub line_stops_run : (why : RunFault) → HasRun held number s r0 r1 w0 w1
        → ReadsLine held new r1 r2 line → Answers (TakesLine s number line) (Err why) w1 w2
        → RunStops why r0 r2 w0 w2
    line_stops_run why run reads answer =
        let text = reads.text in
        let lines = whole_lines [] run.prefix in
        let off = breaks why s number text w1 w2
        (subst (λ (l : List ℕ). Answers (TakesLine s number l) (Err why) w1 w2) reads.returned
        answer) in
        let here : BreaksOff why s (1 + length lines) text off.0 =
        subst (λ n. BreaksOff why s n text off.0) run.count off.1 in
        record {
          bytes = run.bytes ++ reads.bytes;
          read = consumes_then r0 r1 r2 run.bytes reads.bytes run.read reads.read;
          first = run.first;
          none_yet = run.none_yet;
          text = answer_lines run.lines ++ off.0;
          stops =
              subst
              (λ (l : List (List ℕ)).
              StopsOver why (part.Plan run.first) 1 l (answer_lines run.lines ++ off.0))
              (sym (all_lines run reads))
              (stops_then why (part.Plan run.first) 1 lines (text ∷ whole_lines [] new) s run.lines
              off.0 run.taken (inl here));
          too_long = λ is. absurd (not_too_long why s number line w1 w2 answer is);
          written =
              appends_then w0 w1 w2 (answer_lines run.lines) off.0 run.written off.2;
        }

of_input : (why : RunFault) (bytes : List ℕ) → IsOfInput why bytes → IsAfterLines why
of_input fault.Input bytes h = tt
of_input fault.InputTooLong bytes h = tt
of_input fault.Output bytes h = absurd h
of_input fault.Memory bytes h = absurd h
of_input (fault.Store why) bytes h = absurd h

not_read : fault.Input ≡ fault.InputTooLong → ⊥
not_read is = cc

long_enough : (why : RunFault) (bytes : List ℕ) → IsOfInput why bytes
    → why ≡ fault.InputTooLong → 2 ^ 64 - 2 ≤ length bytes
long_enough fault.InputTooLong bytes h is = h
long_enough fault.Input bytes h is = absurd (not_read is)
long_enough fault.Output bytes h is = absurd h
long_enough fault.Memory bytes h is = absurd h
long_enough (fault.Store why) bytes h is = absurd h

module _ {held : List ℕ} {number : ℕ} {s : InputPart} {r0 r1 r2 w0 w1 : Option (List ℕ)} where
  -- All lines, if no more was read.
  no_more_lines : (run : HasRun held number s r0 r1 w0 w1) (bytes : List ℕ)
      → ReadsNoLine held r1 r2 bytes
      → whole_lines [] (run.bytes ++ bytes) ≡ whole_lines [] run.prefix ++ []
  no_more_lines run bytes reads =
      ap (whole_lines []) (read_on run.bytes run.prefix held bytes run.parts)
      ∙ lines_after run.prefix (held ++ bytes) run.closed
      ∙ ap (λ (l : List (List ℕ)). whole_lines [] run.prefix ++ l) reads.none

  -- The input has ended.
  pub input_ends_run : HasRun held number s r0 r1 w0 w1
      → (bytes : List ℕ) × ReadsNoLine held r1 r2 bytes × IsAtEnd r2
      → RunEnds end.InputEnded r0 r2 w0 w1
  input_ends_run run reads = record {
    bytes = run.bytes ++ reads.0;
    read = consumes_then r0 r1 r2 run.bytes reads.0 run.read reads.1.read;
    first = run.first;
    none_yet = run.none_yet;
    lines = run.lines ++ [];
    runs =
        subst
        (λ (l : List (List ℕ)).
        RunsOver (part.Plan run.first) 1 l end.InputEnded (run.lines ++ []))
        (sym (no_more_lines run reads.0 reads.1))
        (runs_then (part.Plan run.first) 1 (whole_lines [] run.prefix) [] s end.InputEnded
        run.lines [] run.taken (refl, refl));
    ended = λ is. reads.2;
    written =
        subst (λ (l : List AnswerLine). Appends w0 w1 (answer_lines l))
        (sym (append-nil run.lines)) run.written;
  }

  -- A fault of the input has stopped the run.
  pub input_stops_run : (why : RunFault) → HasRun held number s r0 r1 w0 w1
      → (bytes : List ℕ) × ReadsNoLine held r1 r2 bytes × IsOfInput why bytes
      → RunStops why r0 r2 w0 w1
  input_stops_run why run reads = record {
    bytes = run.bytes ++ reads.0;
    read = consumes_then r0 r1 r2 run.bytes reads.0 run.read reads.1.read;
    first = run.first;
    none_yet = run.none_yet;
    text = answer_lines run.lines ++ [];
    stops =
        subst
        (λ (l : List (List ℕ)).
        StopsOver why (part.Plan run.first) 1 l (answer_lines run.lines ++ []))
        (sym (no_more_lines run reads.0 reads.1))
        (stops_then why (part.Plan run.first) 1 (whole_lines [] run.prefix) [] s run.lines []
        run.taken (of_input why reads.0 reads.2, refl));
    too_long = λ is.
        omega (arith, long_enough why reads.0 reads.2 is, length-append run.bytes reads.0);
    written =
        subst (Appends w0 w1) (sym (append-nil (answer_lines run.lines))) run.written;
  }

few_lines : (begun bytes : List ℕ) → length (whole_lines begun bytes) ≤ length bytes
few_lines begun [] = omega arith
few_lines begun (b ∷ bytes) =
    grind (arith, nat_tests, few_lines [] bytes, few_lines (begun ++ b ∷ []) bytes)

stops_here : (s : InputPart) (n : ℕ) (input : List (List ℕ))
    → StopsOver fault.InputTooLong s n input []
stops_here s n [] = (tt, refl)
stops_here s n (line ∷ input) = inl refl

-- The numbers of the lines are used up.
pub lines_stop_run : (held : List ℕ) (number : ℕ) (s : InputPart) (r0 r1 w0 w1 : Option (List ℕ))
    → HasRun held number s r0 r1 w0 w1 → 2 ^ 64 - 1 ≤ number
    → RunStops fault.InputTooLong r0 r1 w0 w1
lines_stop_run held number s r0 r1 w0 w1 run many = record {
  bytes = run.bytes;
  read = run.read;
  first = run.first;
  none_yet = run.none_yet;
  text = answer_lines run.lines ++ [];
  stops =
      subst
      (λ (l : List (List ℕ)).
      StopsOver fault.InputTooLong (part.Plan run.first) 1 l (answer_lines run.lines ++ []))
      (sym (ap (whole_lines []) run.parts ∙ lines_after run.prefix held run.closed))
      (stops_then fault.InputTooLong (part.Plan run.first) 1 (whole_lines [] run.prefix)
      (whole_lines [] held) s run.lines [] run.taken
      (stops_here s (1 + length (whole_lines [] run.prefix)) (whole_lines [] held)));
  too_long = λ is.
      let size : length run.bytes ≡ length run.prefix + length held =
      ap length run.parts ∙ length-append run.prefix held in
      omega (arith, many, run.count, few_lines [] run.prefix, size);
  written = subst (Appends w0 w1) (sym (append-nil (answer_lines run.lines))) run.written;
}
