-- Rows of groups and tasks, and heads, are read exactly if the bytes begin with them.
use Rattle.run_model.proofs.Common.{◌≡◌, ℕ, zero, suc, ◌<◌, ◌==◌, ◌^◌, nat_lt, cond, Bool, true}
use Rattle.run_model.proofs.Common.{false, List, [], ◌∷◌, ◌++◌, ◌+◌, ◌≤◌, length, Option, Some}
use Rattle.run_model.proofs.Common.{None, refl, ap, ◌∙◌, subst, arith, append_assoc, IsTrue}
use Rattle.run_model.proofs.Common.{is_none, w16, to_be_bytes, w64, flat_map, AllByRecursion}
use Rattle.run_model.proofs.Common.{same_Some, none-some, cond_some, ltb-true, lt-ltb, eqb-true}
use Rattle.run_model.proofs.Common.{ne_eqb, is_row_number, most_scopes, most_tasks}
use Rattle.run_model.proofs.Common.{most_scopes_most, most_tasks_most, is_name, is_text, and_from}
use Rattle.std.proofs.lemmas.Bool.{cond-true, eqb-false}
use Rattle.run_model.specs.declared.bounds.TheConstants.{MOST_GROUPS}
use Rattle.run_model.specs.declared.layouts.Layout.{Layout}
use Rattle.row_view.specs.declared.heads.ImageVersion.{ImageVersion}
use Rattle.row_view.specs.declared.heads.ImageVersion.TheVariants.{One, Two}
use Rattle.run_model.specs.declared.tasks.Stage.{Stage}
use Rattle.run_model.specs.declared.tasks.Stage.TheVariants as stage
use Rattle.row_view.specs.Fields.{Reader, ◌>>=◌, number_at}
use Rattle.row_view.specs.Image.{flag_bytes, stage_bytes, group_bytes, task_bytes, is_kept_link}
use Rattle.row_view.specs.Image.{link_bytes, version_bytes, head_bytes, is_kept_stage}
use Rattle.row_view.specs.Image.{is_kept_group, is_kept_task, is_kept_head}
use Rattle.row_view.specs.RowReading.{flag_at, flag_by, stage_at, stage_by, group_row_at}
use Rattle.row_view.specs.RowReading.{group_made, task_at, task_made, count_at, version_at}
use Rattle.row_view.specs.RowReading.{head_at, head_made, version_by, fewer_at, link_at}
use Rattle.row_view.specs.RowReading.{link_by}
use Rattle.row_view.proofs.Codecs.{Takes, Codec, same_takes, through, chosen}
use Rattle.row_view.proofs.Codecs.{first_true, second_true, one_takes, one_again}
use Rattle.row_view.proofs.Fields.{row_number, moment, text_field, optional_field, limit_field}
use Rattle.row_view.proofs.Fields.{by_byte, is_byte}
use Rattle.row_view.proofs.LongCodecs.{five_takes, five_again, six_takes, six_again}
use Rattle.row_view.proofs.RowFields.{bare_value, long_number}

-- ---- flags

abbrev any_flag : Bool → Bool
any_flag _ = true

flag_known :
    (b : ℕ) (bytes : List ℕ) (x : Bool × List ℕ) → flag_by b bytes ≡ Some x →
    Takes flag_bytes any_flag (b ∷ bytes) x
unfolding flag_by
flag_known b bytes x e =
    let bare = λ (k : ℕ) (made : Bool). bare_value flag_bytes any_flag b k made bytes x in
    chosen (b == 0) _ _ _ (λ same e. bare 0 false same refl refl e) (λ differs e.
    chosen (b == 1) _ _ _ (λ same e. bare 1 true same refl refl e) (λ differs e.
    absurd (none-some x e)) e) e

flag_again :
    (made : Bool) (rest : List ℕ) → IsTrue (any_flag made) →
    flag_at (flag_bytes made ++ rest) ≡ Some (made, rest)
unfolding flag_at flag_by
flag_again false rest ok = refl
flag_again true rest ok = refl

pub flag_field : Codec flag_at flag_bytes any_flag
unfolding flag_at
flag_field = record {
  takes = λ bytes x e. by_byte flag_by flag_bytes any_flag flag_known bytes x e;
  again = flag_again;
}

-- ---- stages

stage_known :
    (b : ℕ) (bytes : List ℕ) (x : Stage × List ℕ) → stage_by b bytes ≡ Some x →
    Takes stage_bytes is_kept_stage (b ∷ bytes) x
unfolding stage_by
stage_known b bytes x e =
    let bare = λ (k : ℕ) (made : Stage). bare_value stage_bytes is_kept_stage b k made bytes x in
    chosen (b == 0) _ _ _ (λ same e. bare 0 stage.Fresh same refl refl e) (λ differs e.
    chosen (b == 1) _ _ _ (λ same e. bare 1 stage.Running same refl refl e) (λ differs e.
    chosen (b == 2) _ _ _ (λ same e. bare 2 stage.Success same refl refl e) (λ differs e.
    chosen (b == 3) _ _ _
    (λ same e.
    one_takes (text_field is_text) stage.Failure
    (λ y rest. Takes stage_bytes is_kept_stage (b ∷ bytes) (y, rest)) bytes x
    (λ t rest spelled p.
    is_byte (λ n. Takes stage_bytes is_kept_stage (n ∷ bytes) (stage.Failure t, rest)) b 3 same
    (record { spelled = ap (λ r. 3 ∷ r) spelled; tested = p }))
    e)
    (λ differs e.
    chosen (b == 4) _ _ _ (λ same e. bare 4 stage.Interrupted same refl refl e) (λ differs e.
    absurd (none-some x e)) e) e) e) e) e

stage_again :
    (made : Stage) (rest : List ℕ) → IsTrue (is_kept_stage made) →
    stage_at (stage_bytes made ++ rest) ≡ Some (made, rest)
unfolding stage_at stage_by
stage_again stage.Fresh rest ok = refl
stage_again stage.Running rest ok = refl
stage_again stage.Success rest ok = refl
stage_again (stage.Failure text) rest ok =
    one_again (text_field is_text) stage.Failure text rest ok
stage_again stage.Interrupted rest ok = refl

pub stage_field : Codec stage_at stage_bytes is_kept_stage
unfolding stage_at
stage_field = record {
  takes = λ bytes x e. by_byte stage_by stage_bytes is_kept_stage stage_known bytes x e;
  again = stage_again;
}

-- ---- links

link_known :
    (n : ℕ) (bytes rest : List ℕ) (x : Option ℕ × List ℕ) → bytes ≡ to_be_bytes w16 n ++ rest →
    is_row_number n ≡ true → link_by n rest ≡ Some x →
    Takes (link_bytes Two) (is_kept_link Two) bytes x
unfolding link_by
link_known n bytes rest x spelled ok e =
    chosen (n == 65535) _ _ _
    (λ same e.
    same_takes bytes (None, rest) x (same_Some (None, rest) x e)
    (record {
      spelled = spelled ∙ ap (λ m. to_be_bytes w16 m ++ rest) (eqb-true n 65535 same);
      tested = refl;
    }))
    (λ differs e.
    same_takes bytes (Some n, rest) x (same_Some (Some n, rest) x e)
    (record {
      spelled = spelled;
      tested =
          let small = ltb-true n (2 ^ 16) ok in
          let other = eqb-false n 65535 differs in
          lt-ltb n 65535 (omega (arith, small, other));
    })) e

link_again :
    (link : Option ℕ) (rest : List ℕ) → IsTrue (is_kept_link Two link) →
    link_at Two (link_bytes Two link ++ rest) ≡ Some (link, rest)
unfolding link_at link_by
link_again None rest ok = rw (row_number.again 65535 rest refl)
link_again (Some n) rest ok =
    let less : n < 65535 = ltb-true n 65535 ok in
    rw (
      row_number.again n rest (lt-ltb n (2 ^ 16) (omega arith)),
      ne_eqb n 65535 (λ e. omega (arith, e, less)),
    )

no_link : (link : Option ℕ) → is_none link ≡ true → None ≡ link
no_link None ok = refl
no_link (Some n) ok = absurd (cc)

link_field : (version : ImageVersion)
    → Codec (link_at version) (link_bytes version) (is_kept_link version)
unfolding link_at
link_field One = record {
  takes = λ bytes x e.
      same_takes bytes (None, bytes) x (same_Some (None, bytes) x e)
      (record { spelled = refl; tested = refl });
  again = λ link rest ok. ap (λ l. Some (l, rest)) (no_link link ok);
}
link_field Two = record {
  takes = λ bytes x e.
      let n = through (number_at w16 bytes) (λ (n : ℕ × List ℕ). link_by n.0 n.1) x e in
      let taken = row_number.takes bytes n.0 n.1 in
      link_known n.0.0 bytes n.0.1 x taken.spelled taken.tested n.2;
  again = link_again;
}

-- ---- rows

pub group_row : Codec group_row_at group_bytes is_kept_group
unfolding group_row_at
group_row = record {
  takes = λ bytes x e.
      six_takes (text_field is_name) row_number flag_field limit_field flag_field optional_field
      group_made (λ y rest. Takes group_bytes is_kept_group bytes (y, rest)) bytes x
      (λ name scope bare limit waited error rest spelled p q r s t u. record {
        spelled = spelled;
        tested = and_from _ _ (and_from _ _ (and_from _ _ (and_from _ _ (and_from _ _ p q) r)
            s) t) u;
      }) e;
  again = λ row rest ok.
      six_again (text_field is_name) row_number flag_field limit_field flag_field optional_field
      group_made row.name row.scope row.bare row.limit row.waited row.error rest
      (first_true _ _ (first_true _ _ (first_true _ _ (first_true _ _ (first_true _ _ ok)))))
      (second_true _ _ (first_true _ _ (first_true _ _ (first_true _ _ (first_true _ _ ok)))))
      refl
      (second_true _ _ (first_true _ _ (first_true _ _ ok)))
      refl
      (second_true _ _ ok);
}

pub task_row : (version : ImageVersion)
    → Codec (task_at version) (task_bytes version) (is_kept_task version)
unfolding task_at
task_row version = record {
  takes = λ bytes x e.
      five_takes row_number (text_field is_name) (text_field is_name) stage_field
      (link_field version) task_made
      (λ y rest. Takes (task_bytes version) (is_kept_task version) bytes (y, rest)) bytes x
      (λ group job argument made link rest spelled p q r s t. record {
        spelled = spelled;
        tested = and_from _ _ (and_from _ _ (and_from _ _ (and_from _ _ p q) r) s) t;
      }) e;
  again = λ row rest ok.
      five_again row_number (text_field is_name) (text_field is_name) stage_field
      (link_field version) task_made
      row.group row.job row.argument row.stage row.retry_of rest
      (first_true _ _ (first_true _ _ (first_true _ _ (first_true _ _ ok))))
      (second_true _ _ (first_true _ _ (first_true _ _ (first_true _ _ ok))))
      (second_true _ _ (first_true _ _ (first_true _ _ ok)))
      (second_true _ _ (first_true _ _ ok))
      (second_true _ _ ok);
}

-- ---- heads

-- What passes a test, of what a codec gave.
module _
    {A : Type 0} {read : Reader A} {write : A → List ℕ} {test : A → Bool}
    (field : Codec read write test) (more : A → Bool)
    (fits : (a : A) → more a ≡ true → test a ≡ true) where
  abbrev pub passed : A × List ℕ → Option (A × List ℕ)
  passed x = cond (more x.0) (Some x) None

  pub passed_takes :
      (bytes : List ℕ) (x : A × List ℕ) → (read bytes >>= passed) ≡ Some x →
      Takes write more bytes x
  passed_takes bytes x e =
      let n = through (read bytes) passed x e in
      let ok = cond_some (more n.0.0) n.0 x n.2 in
      let P : A × List ℕ → Type 0 = λ y. Takes write more bytes y in
      subst P ok.1 (record { spelled = (field.takes bytes n.0 n.1).spelled; tested = ok.0 })

  pub passed_again :
      (a : A) (rest : List ℕ) → IsTrue (more a) →
      (read (write a ++ rest) >>= passed) ≡ Some (a, rest)
  passed_again a rest ok =
      ap (λ m. m >>= passed) (field.again a rest (fits a ok))
      ∙ cond-true (more a) (Some (a, rest)) None ok

count_long : (n : ℕ) → nat_lt n (2 ^ 63) ≡ true → nat_lt n (2 ^ 64) ≡ true
count_long n ok = let h = ltb-true n (2 ^ 63) ok in lt-ltb n (2 ^ 64) (omega arith)

count_field : Codec count_at (to_be_bytes w64) (λ n. nat_lt n (2 ^ 63))
unfolding count_at
count_field = record {
  takes = passed_takes long_number (λ n. nat_lt n (2 ^ 63)) count_long;
  again = passed_again long_number (λ n. nat_lt n (2 ^ 63)) count_long;
}

-- A number of rows is below a bound that two bytes can hold.
fewer_field :
    (bound : ℕ) → bound ≤ 2 ^ 16 →
    Codec (fewer_at bound) (to_be_bytes w16) (λ n. nat_lt n bound)
unfolding fewer_at
fewer_field bound most = record {
  takes = passed_takes row_number (λ n. nat_lt n bound) short;
  again = passed_again row_number (λ n. nat_lt n bound) short;
}
  where
    short : (n : ℕ) → nat_lt n bound ≡ true → is_row_number n ≡ true
    short n ok = let h = ltb-true n bound ok in lt-ltb n (2 ^ 16) (omega arith)

abbrev any_version : ImageVersion → Bool
any_version _ = true

version_known :
    (b : ℕ) (bytes : List ℕ) (x : ImageVersion × List ℕ) → version_by b bytes ≡ Some x →
    Takes version_bytes any_version (b ∷ bytes) x
version_known b bytes x e =
    let bare = λ (k : ℕ) (made : ImageVersion).
    bare_value version_bytes any_version b k made bytes x in
    chosen (b == 1) _ _ _ (λ same e. bare 1 One same refl refl e) (λ differs e.
    chosen (b == 2) _ _ _ (λ same e. bare 2 Two same refl refl e) (λ differs e.
    absurd (none-some x e)) e) e

version_again :
    (made : ImageVersion) (rest : List ℕ) → IsTrue (any_version made) →
    version_at (version_bytes made ++ rest) ≡ Some (made, rest)
unfolding version_at
version_again One rest ok = refl
version_again Two rest ok = refl

version_field : Codec version_at version_bytes any_version
unfolding version_at
version_field = record {
  takes = λ bytes x e. by_byte version_by version_bytes any_version version_known bytes x e;
  again = version_again;
}

pub head_field : (layout : Layout) → Codec (head_at layout) head_bytes (is_kept_head layout)
unfolding head_at
head_field layout = record {
  takes = λ bytes x e.
      six_takes version_field moment count_field scopes_field groups_field tasks_field head_made
      (λ y rest. Takes head_bytes (is_kept_head layout) bytes (y, rest)) bytes x
      (λ v clock count scopes groups tasks rest spelled p q r s t u. record {
        spelled = spelled;
        tested = and_from _ _ (and_from _ _ (and_from _ _ (and_from _ _ q r) s) t) u;
      }) e;
  again = λ head rest ok.
      six_again version_field moment count_field scopes_field groups_field tasks_field head_made
      head.version head.clock head.count head.scopes head.groups head.tasks rest
      refl
      (first_true _ _ (first_true _ _ (first_true _ _ (first_true _ _ ok))))
      (second_true _ _ (first_true _ _ (first_true _ _ (first_true _ _ ok))))
      (second_true _ _ (first_true _ _ (first_true _ _ ok)))
      (second_true _ _ (first_true _ _ ok))
      (second_true _ _ ok);
}
  where
    scopes_field : Codec (fewer_at (most_scopes layout)) (to_be_bytes w16)
        (λ n. nat_lt n (most_scopes layout))
    scopes_field = fewer_field (most_scopes layout)
        (let h = most_scopes_most layout in omega arith)

    groups_field : Codec (fewer_at (MOST_GROUPS + 1)) (to_be_bytes w16)
        (λ n. nat_lt n (MOST_GROUPS + 1))
    groups_field = fewer_field (MOST_GROUPS + 1) (omega arith)

    tasks_field : Codec (fewer_at (most_tasks layout + 1)) (to_be_bytes w16)
        (λ n. nat_lt n (most_tasks layout + 1))
    tasks_field = fewer_field (most_tasks layout + 1)
        (let h = most_tasks_most layout in omega arith)

-- ---- several rows

-- So many rows, one after the other.
abbrev pub rows_at : {X : Type 0} → Reader X → ℕ → Reader (List X)
rows_at row zero bytes = Some ([], bytes)
rows_at row (suc n) bytes = do
  first ← row bytes
  others ← rows_at row n first.1
  Some (first.0 ∷ others.0, others.1)

module _
    {X : Type 0} {read : Reader X} {write : X → List ℕ} {test : X → Bool}
    (row : Codec read write test) where
  pub rows_again :
      (xs : List X) (rest : List ℕ) → AllByRecursion (λ x. IsTrue (test x)) xs →
      rows_at read (length xs) (flat_map write xs ++ rest) ≡ Some (xs, rest)
  rows_again [] rest ok = refl
  rows_again (x ∷ xs) rest ok =
      rw (
        append_assoc (write x) (flat_map write xs) rest,
        row.again x (flat_map write xs ++ rest) ok.0,
        rows_again xs rest ok.1,
      )
