-- What each call leaves under a name.
use Rattle.std.proofs.Common.{◌≡◌, ◌⊎◌, ◌∙◌, ◌++◌, ◌∷◌, [], ◌&&◌, ◌||◌, ℕ, List, Bool, Option}
use Rattle.std.proofs.Common.{true, false, not, None, Some, inl, inr, sym, ap, refl, map, fold}
use Rattle.std.proofs.Common.{arith}
use Rattle.std.proofs.Common.{slice_get, length, subst}
use Rattle.std.specs.Prelude.{bytes_eq, nat_eq, if◌then◌else◌}
use Rattle.std.proofs.lemmas.Bool.Decides.{nat_tests}
use Rattle.std.proofs.lemmas.List.{map-append}
use Rattle.std.proofs.lemmas.List.Elements.{All-head, All-tail}
use Rattle.std.proofs.lemmas.Slice.Eq.{bytes_eq-Decides}
use Rattle.file_calls.proofs.NameLemmas.{may_lead-more, none_as_before, same_by_other}
use Rattle.file_calls.proofs.PlaceLemmas.{same_by_places}
use Rattle.file_calls.specs.declared.places.Place.{Place}
use Rattle.file_calls.specs.declared.places.Place.TheVariants.{Durable, Dirty, Lost}
use Rattle.file_calls.specs.Folders.{AreSame, CreatesFile, FolderState, IsNew, IsOldOrNew}
use Rattle.file_calls.specs.Folders.{IsOnly, IsSameFolder, MayHold}
use Rattle.file_calls.specs.Names.{IsUnused, NameStep, Renames, is_durable, is_to, leads, may_by}
use Rattle.file_calls.specs.Names.{may_lead, new_step, settled_step}
use Rattle.file_calls.specs.OpenFiles.{FileState, IsAtRest, IsSame, MayLeave, settled}
use Rattle.store_replacement.specs.Replacements.{KeepsName, LeavesNoMore, synced}

-- files that are the same

pub same_itself : (s : FileState) → IsSame s s
same_itself s = record { now = refl; place = λ i. refl; end = refl }

pub same_after : (a b c : FileState) → IsSame a b → IsSame b c → IsSame a c
same_after a b c first second = record {
  now = second.now ∙ first.now;
  place = λ i. second.place i ∙ first.place i;
  end = second.end ∙ first.end;
}

pub leaves_same : (old new : FileState) (x : List ℕ) → IsSame old new → MayLeave new x
    → MayLeave old x
leaves_same old new x same may = record {
  bytes = λ i durable.
      may.bytes i (same.place i ∙ durable) ∙ ap (λ now. slice_get now i) same.now;
  size = λ durable. may.size (same.end ∙ durable) ∙ ap length same.now;
}

-- where a name may lead

no_then : (a b : Bool) → (a ≡ true → b ≡ true) → b ≡ false → a ≡ false
no_then true b lifts fails = absurd (let e = lifts refl in cc)
no_then false b lifts fails = refl

either : (a b : Bool) → (a || b) ≡ true → (a ≡ true) ⊎ (b ≡ true)
either true b holds = inl refl
either false b holds = inr holds

pub both : (a b : Bool) → (a && b) ≡ true → (a ≡ true) × (b ≡ true)
both true b holds = (refl, holds)
both false b holds = absurd (let e = holds in cc)

not_durable : (to place : Place) → not (is_durable (settled to place)) ≡ true
    → not (is_durable place) ≡ true
not_durable to Durable holds = holds
not_durable to Dirty holds = refl
not_durable to Lost holds = refl

by_settled : (p : Place) (name : List ℕ) (to : Option ℕ) (step : NameStep) (a b : Bool)
    → (a ≡ true → b ≡ true) → may_by name to a (settled_step p step) ≡ true
    → may_by name to b step ≡ true
by_settled p name to step a b lifts holds =
    go (bytes_eq step.name name) (is_to step.to to) holds
  where
    or_true : (c d : Bool) → d ≡ true → (c || d) ≡ true
    or_true true d holds = refl
    or_true false d holds = holds

    and_true : (c d : Bool) → c ≡ true → d ≡ true → (c && d) ≡ true
    and_true c d first second = rw first second

    go : (of leads : Bool)
        → (if of then leads || (a && not (is_durable (settled p step.place))) else a) ≡ true
        → (if of then leads || (b && not (is_durable step.place)) else b) ≡ true
    go false leads holds = lifts holds
    go true true holds = refl
    go true false holds =
        let parts = both a (not (is_durable (settled p step.place))) holds in
        and_true b (not (is_durable step.place)) (lifts parts.0)
        (not_durable p step.place parts.1)

may_settled : (p : Place) (name : List ℕ) (to : Option ℕ) (steps : List NameStep) (a b : Bool)
    → (a ≡ true → b ≡ true) → fold (may_by name to) a (map (settled_step p) steps) ≡ true
    → fold (may_by name to) b steps ≡ true
may_settled p name to [] a b lifts holds = lifts holds
may_settled p name to (step ∷ steps) a b lifts holds =
    may_settled p name to steps (may_by name to a (settled_step p step)) (may_by name to b step)
    (by_settled p name to step a b lifts) holds

-- a sync lets a name lead nowhere else
pub leads_settled : (p : Place) (name : List ℕ) (to : Option ℕ) (steps : List NameStep)
    → may_lead (map (settled_step p) steps) name to ≡ true → may_lead steps name to ≡ true
leads_settled p name to steps =
    may_settled p name to steps (is_to None to) (is_to None to) (λ holds. holds)

by_unused : (name : List ℕ) (file : ℕ) (step : NameStep) → is_to step.to (Some file) ≡ false
    → may_by name (Some file) false step ≡ false
by_unused name file step fails = go (bytes_eq step.name name)
  where
    go : (of : Bool) → (if of then is_to step.to (Some file)
        || (false && not (is_durable step.place)) else false) ≡ false
    go true = rw fails refl
    go false = refl

unused_from : (name : List ℕ) (file : ℕ) (steps : List NameStep) (b : Bool) → b ≡ false
    → IsUnused steps file → fold (may_by name (Some file)) b steps ≡ false
unused_from name file [] b fails unused = fails
unused_from name file (step ∷ steps) b fails unused =
    let P = λ (one : NameStep). is_to one.to (Some file) ≡ false in
    unused_from name file steps (may_by name (Some file) b step)
    (rw fails (by_unused name file step (All-head P step steps unused)))
    (All-tail P step steps unused)

-- no name may lead to a file whose number no file has had
pub unused_leads : (name : List ℕ) (file : ℕ) (steps : List NameStep) → IsUnused steps file
    → may_lead steps name (Some file) ≡ false
unused_leads name file steps unused = unused_from name file steps false refl unused

-- calls that aren't about a name

pub keeps_itself : (name : List ℕ) (s : FolderState) → KeepsName name s s
keeps_itself name s =
    record { now = λ to. refl; later = λ to. refl; files = λ n led. same_itself (s.file n) }

pub keeps_after : (name : List ℕ) (s t u : FolderState) → KeepsName name s t
    → KeepsName name t u → KeepsName name s u
keeps_after name s t u first second = record {
  now = λ to. second.now to ∙ first.now to;
  later = λ to. second.later to ∙ first.later to;
  files = λ n led.
      same_after (s.file n) (t.file n) (u.file n) (first.files n led)
      (second.files n (first.now (Some n) ∙ led));
}

pub keeps_same : (name : List ℕ) (s t : FolderState) → IsSameFolder s t → KeepsName name s t
keeps_same name s t same = record {
  now = λ to. ap (λ steps. may_lead steps name to) same.steps;
  later = λ to. ap (λ steps. may_lead (map (settled_step Durable) steps) name to) same.steps;
  files = λ n led. same.files n;
}

more_now : (other name : List ℕ) (steps new : List NameStep) (to left : Option ℕ)
    → bytes_eq other name ≡ false → new ≡ steps ++ new_step other to ∷ []
    → may_lead new name left ≡ may_lead steps name left
more_now other name steps new to left apart e = rw e (same_by_other steps other name to left apart)

more_later : (other name : List ℕ) (steps new : List NameStep) (to left : Option ℕ)
    → bytes_eq other name ≡ false → new ≡ steps ++ new_step other to ∷ []
    → may_lead (map (settled_step Durable) new) name left
    ≡ may_lead (map (settled_step Durable) steps) name left
more_later other name steps new to left apart e =
    let step = settled_step Durable (new_step other to) in
    rw (e, map-append (settled_step Durable) steps (new_step other to ∷ []))
    (may_lead-more (map (settled_step Durable) steps) step name left ∙ rw apart refl)

is_another : (n file : ℕ) (name : List ℕ) (steps : List NameStep)
    → may_lead steps name (Some file) ≡ false → may_lead steps name (Some n) ≡ true
    → nat_eq n file ≡ false
is_another n file name steps fails holds = go (nat_eq n file) refl
  where
    go : (b : Bool) → nat_eq n file ≡ b → nat_eq n file ≡ false
    go false is = is
    go true is =
        let e : n ≡ file = grind (arith, nat_tests, is) in
        absurd (let f : may_lead steps name (Some file) ≡ true =
        subst (λ m. may_lead steps name (Some m) ≡ true) e holds in cc)

pub keeps_created : (other name : List ℕ) (file : ℕ) (s t : FolderState)
    → bytes_eq other name ≡ false → CreatesFile other file s t → KeepsName name s t
keeps_created other name file s t apart made = record {
  now = λ to. more_now other name s.steps t.steps (Some file) to apart made.named.steps;
  later = λ to. more_later other name s.steps t.steps (Some file) to apart made.named.steps;
  files = λ n led. made.others n (is_another n file name s.steps
      (unused_leads name file s.steps made.named.unused) led);
}

pub keeps_removed : (other name : List ℕ) (s t : FolderState) → bytes_eq other name ≡ false
    → AreSame s t → (t.steps ≡ s.steps ++ new_step other None ∷ []) → KeepsName name s t
keeps_removed other name s t apart same gone = record {
  now = λ to. more_now other name s.steps t.steps None to apart gone;
  later = λ to. more_later other name s.steps t.steps None to apart gone;
  files = λ n led. same n;
}

pub keeps_only : (name : List ℕ) (file : ℕ) (s t : FolderState) → IsOnly file s t
    → may_lead s.steps name (Some file) ≡ false → KeepsName name s t
keeps_only name file s t only unused = record {
  now = λ to. ap (λ steps. may_lead steps name to) only.steps;
  later = λ to. ap (λ steps. may_lead (map (settled_step Durable) steps) name to) only.steps;
  files = λ n led. only.others n (is_another n file name s.steps unused led);
}

-- what is left under a name

pub less_itself : (name : List ℕ) (s : FolderState) → LeavesNoMore name s s
less_itself name s = record { held = λ held. held; bytes = λ x may. may }

pub less_after : (name : List ℕ) (s t u : FolderState) → LeavesNoMore name s t
    → LeavesNoMore name t u → LeavesNoMore name s u
less_after name s t u first second = record {
  held = λ held. second.held (first.held held);
  bytes = λ x may. first.bytes x (second.bytes x may);
}

-- if each name and each file leaves no more
less_by : (name : List ℕ) (s t : FolderState)
    → ((to : Option ℕ) → may_lead t.steps name to ≡ true → may_lead s.steps name to ≡ true)
    → ((n : ℕ) (x : List ℕ) → may_lead s.steps name (Some n) ≡ true → MayLeave (t.file n) x
    → MayLeave (s.file n) x) → LeavesNoMore name s t
less_by name s t leads bytes = record {
  held = no_then (may_lead t.steps name None) (may_lead s.steps name None) (leads None);
  bytes = λ x may.
      let led = leads (Some may.file) may.leads in
      record { file = may.file; leads = led; bytes = bytes may.file x led may.bytes };
}

pub less_kept : (name : List ℕ) (s t : FolderState) → KeepsName name s t → LeavesNoMore name s t
less_kept name s t kept =
    less_by name s t (λ to holds. sym (kept.now to) ∙ holds)
    (λ n x led. leaves_same (s.file n) (t.file n) x (kept.files n led))

pub less_kept_synced : (name : List ℕ) (s t : FolderState) → KeepsName name s t
    → LeavesNoMore name (synced s) (synced t)
less_kept_synced name s t kept =
    less_by name (synced s) (synced t) (λ to holds. sym (kept.later to) ∙ holds)
    (λ n x led. leaves_same (s.file n) (t.file n) x
    (kept.files n (leads_settled Durable name (Some n) s.steps led)))

-- after a sync of the names, and after one that failed
pub less_names : (p : Place) (name : List ℕ) (s t : FolderState) → AreSame s t
    → t.steps ≡ map (settled_step p) s.steps → LeavesNoMore name s t
less_names p name s t same steps =
    less_by name s t
    (λ to holds. leads_settled p name to s.steps
    (ap (λ all. may_lead all name to) (sym steps) ∙ holds))
    (λ n x led. leaves_same (s.file n) (t.file n) x (same n))

pub less_synced : (name : List ℕ) (s t : FolderState) → AreSame s t
    → t.steps ≡ map (settled_step Durable) s.steps → LeavesNoMore name (synced s) t
less_synced name s t same steps =
    less_by name (synced s) t (λ to holds. ap (λ all. may_lead all name to) (sym steps) ∙ holds)
    (λ n x led. leaves_same (s.file n) (t.file n) x (same n))

pub less_same : (name : List ℕ) (s t : FolderState) → AreSame s t → t.steps ≡ s.steps
    → LeavesNoMore name s t
less_same name s t same steps =
    less_by name s t (λ to holds. ap (λ all. may_lead all name to) (sym steps) ∙ holds)
    (λ n x led. leaves_same (s.file n) (t.file n) x (same n))

-- the replacement

pub new_less : (name new : List ℕ) (s t : FolderState) → IsNew name new s → LeavesNoMore name s t
    → IsNew name new t
new_less name new s t is less = record {
  held = less.held is.held;
  bytes = λ x may. is.bytes x (less.bytes x may);
}

pub old_less : (name new : List ℕ) (s t : FolderState) → LeavesNoMore name s t
    → IsOldOrNew name new s t
old_less name new s t less = record {
  held = less.held;
  bytes = λ x may. inl (less.bytes x may);
}

pub old_or_new_less : (name new : List ℕ) (s t u : FolderState) → IsOldOrNew name new s t
    → LeavesNoMore name t u → IsOldOrNew name new s u
old_or_new_less name new s t u first less = record {
  held = λ held. less.held (first.held held);
  bytes = λ x may. first.bytes x (less.bytes x may);
}

pub less_old_or_new : (name new : List ℕ) (s t u : FolderState) → LeavesNoMore name s t
    → IsOldOrNew name new t u → IsOldOrNew name new s u
less_old_or_new name new s t u less second = record {
  held = λ held. second.held (less.held held);
  bytes = λ x may. go x (second.bytes x may);
}
  where
    go : (x : List ℕ) → MayHold t name x ⊎ (x ≡ new) → MayHold s name x ⊎ (x ≡ new)
    go x (inl old) = inl (less.bytes x old)
    go x (inr is) = inr is

pub itself : (name : List ℕ) → bytes_eq name name ≡ true
itself name = (bytes_eq-Decides name name).1 refl

-- a name whose last step leads to a file leads there, or where it might have led before
pub after_step : (steps : List NameStep) (name : List ℕ) (file n : ℕ)
    → may_lead (steps ++ new_step name (Some file) ∷ []) name (Some n) ≡ true
    → (nat_eq file n ≡ true) ⊎ (may_lead steps name (Some n) ≡ true)
after_step steps name file n holds =
    let all : may_by name (Some n) (may_lead steps name (Some n)) (new_step name (Some file))
    ≡ true =
    sym (may_lead-more steps (new_step name (Some file)) name (Some n)) ∙ holds in
    let mine : (nat_eq file n || (may_lead steps name (Some n) && true)) ≡ true =
    rw (itself name) at all in
    go (either (nat_eq file n) (may_lead steps name (Some n) && true) mine)
  where
    go : (nat_eq file n ≡ true) ⊎ ((may_lead steps name (Some n) && true) ≡ true)
        → (nat_eq file n ≡ true) ⊎ (may_lead steps name (Some n) ≡ true)
    go (inl is) = inl is
    go (inr may) = inr (both (may_lead steps name (Some n)) true may).0

pub rest_is_now : (s : FileState) (x : List ℕ) → IsAtRest s → MayLeave s x → x ≡ s.now
rest_is_now s x rest may = same_by_places x s.now (λ i. may.bytes i (rest.place i))

-- the file to which `from` leads, if its number is this one
the_file : (from to : List ℕ) (file : ℕ) (old new : List NameStep) → leads old from ≡ Some file
    → (renames : Renames from to old new) → renames.file ≡ file
the_file from to file old new led renames = let e = renames.led in cc

pub renamed : (from to : List ℕ) (file : ℕ) (s t : FolderState) → bytes_eq from to ≡ false
    → leads s.steps from ≡ Some file → IsAtRest (s.file file) → AreSame s t
    → Renames from to s.steps t.steps → IsOldOrNew to (s.file file).now s t
renamed from to file s t apart led rest same renames =
    let e : renames.file ≡ file = the_file from to file s.steps t.steps led renames in
    let first = s.steps ++ new_step to (Some renames.file) ∷ [] in
    let one : (left : Option ℕ) → may_lead t.steps to left ≡ may_lead first to left =
    λ left. more_now from to first t.steps None left apart renames.steps in
    record {
      held = λ held. one None ∙ none_as_before s.steps to renames.file ∙ held;
      bytes = λ x may.
          go x may.file may.bytes (after_step s.steps to renames.file may.file
          (sym (one (Some may.file)) ∙ may.leads)) e;
    }
  where
    go : (x : List ℕ) (n : ℕ) → MayLeave (t.file n) x
        → (nat_eq renames.file n ≡ true) ⊎ (may_lead s.steps to (Some n) ≡ true)
        → renames.file ≡ file → MayHold s to x ⊎ (x ≡ (s.file file).now)
    go x n may (inl is) e =
        let it : n ≡ file = grind (arith, nat_tests, is, e) in
        let mine : MayLeave (t.file file) x = subst (λ m. MayLeave (t.file m) x) it may in
        inr (rest_is_now (s.file file) x rest
        (leaves_same (s.file file) (t.file file) x (same file) mine))
    go x n may (inr old) e = inl (record {
      file = n;
      leads = old;
      bytes = leaves_same (s.file n) (t.file n) x (same n) may;
    })

-- and after a sync of the names only there
pub after_durable : (steps : List NameStep) (name : List ℕ) (file : ℕ) (to : Option ℕ)
    → may_lead (map (settled_step Durable) (steps ++ new_step name (Some file) ∷ [])) name to
    ≡ is_to (Some file) to
after_durable steps name file to =
    let last = settled_step Durable (new_step name (Some file)) in
    rw (map-append (settled_step Durable) steps (new_step name (Some file) ∷ []))
    (may_lead-more (map (settled_step Durable) steps) last name to
    ∙ rw (itself name) (nothing_else (is_to (Some file) to)
    (may_lead (map (settled_step Durable) steps) name to)))
  where
    nothing_else : (a b : Bool) → (a || (b && false)) ≡ a
    nothing_else true b = refl
    nothing_else false true = refl
    nothing_else false false = refl

pub renamed_synced : (from to : List ℕ) (file : ℕ) (s t : FolderState)
    → bytes_eq from to ≡ false → leads s.steps from ≡ Some file → IsAtRest (s.file file)
    → AreSame s t → Renames from to s.steps t.steps → IsNew to (s.file file).now (synced t)
renamed_synced from to file s t apart led rest same renames =
    let e : renames.file ≡ file = the_file from to file s.steps t.steps led renames in
    let first = s.steps ++ new_step to (Some renames.file) ∷ [] in
    let one : (left : Option ℕ) → may_lead (map (settled_step Durable) t.steps) to left
    ≡ is_to (Some renames.file) left =
    λ left. more_later from to first t.steps None left apart renames.steps
    ∙ after_durable s.steps to renames.file left in
    record {
      held = one None;
      bytes = λ x may. go x may.file may.bytes (sym (one (Some may.file)) ∙ may.leads) e;
    }
  where
    go : (x : List ℕ) (n : ℕ) → MayLeave (t.file n) x → nat_eq renames.file n ≡ true
        → renames.file ≡ file → x ≡ (s.file file).now
    go x n may is e =
        let it : n ≡ file = grind (arith, nat_tests, is, e) in
        let mine : MayLeave (t.file file) x = subst (λ m. MayLeave (t.file m) x) it may in
        rest_is_now (s.file file) x rest
        (leaves_same (s.file file) (t.file file) x (same file) mine)
