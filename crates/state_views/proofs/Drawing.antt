-- The lines of a tree are added one node after another.
use Rattle.std.specs.Prelude.{◌≡◌, ◌≤◌, ◌<◌, ◌+◌, ℕ, zero, suc, Bool, List, [], ◌∷◌, ◌++◌, length}
use Rattle.std.specs.Prelude.{Option, Some, None, IfSome, slice_get, take, if◌then◌else◌}
use Rattle.std.specs.Option.{option_map}
use Rattle.std.specs.List.{flat_map}
use Rattle.std.proofs.Common.{refl, sym, ap, ◌∙◌, subst, arith, append_assoc, append-nil}
use Rattle.std.proofs.Common.{add-one, length-append}
use Rattle.std.proofs.lemmas.Bool.{ne_eqb}
use Rattle.std.proofs.lemmas.Grind.{flat_map-append}
use Rattle.std.proofs.lemmas.List.{length-map, length-take-le}
use Rattle.std.proofs.lemmas.Option.{slice_get-map}
use Rattle.run_model.specs.declared.answers.TaskLook.{TaskLook}
use Rattle.run_model.specs.declared.tasks.Task.{Task}
use Rattle.run_model.specs.Questions.{task_look_of}
use Rattle.run_model.specs.Rules.{IsConsistent}
use Rattle.run_model.specs.State.{State}
use Rattle.state_views.specs.Branches.{branches_of, node_line, nodes_of, own_line}
use Rattle.state_views.specs.Trees.{above, drawn, lead, mark, parents_of}
use Rattle.state_views.specs.Walks.{IsAt, drawn_from, drawn_next}
use Rattle.state_views.proofs.StateTrees.{drawn_within}
use Rattle.state_views.specs.RowKinds.{count_of, parents_in}
use Rattle.state_views.specs.Sheets.{Adds}
use Rattle.state_views.specs.declared.row_kinds.RowKind.{RowKind}
use Rattle.state_views.specs.declared.row_kinds.RowKind.TheVariants.{Scopes, Groups, Tasks}
use Rattle.state_views.specs.declared.sheets.Sheet.{Sheet}
use Rattle.state_views.proofs.Adding.{adds_nothing, adds_then}

-- The lines of these nodes were added, and the others are drawn from the next one on.
pub record IsDrawnTo (b : Bool) (p : State) (next : Option ℕ) (above : List ℕ) (s0 s1 : Sheet)
    (w0 w1 : Option (List ℕ)) : Type 0 where
  pub done : List ℕ
  pub drawn_is : drawn (nodes_of b p) ≡ done ++ drawn_next (nodes_of b p) next
  pub added : Adds (flat_map (node_line b p) done) s0 s1 w0 w1
  pub at : IfSome next (λ n. IsAt (nodes_of b p) n above)

-- Nothing has been added yet, and root is next.
pub drawn_first : (b : Bool) (p : State) (above : List ℕ) (s : Sheet) (w : Option (List ℕ))
    → IsConsistent p → above ≡ [] → IsDrawnTo b p (Some 0) above s s w w
drawn_first b p above s w rules none =
    record {
      done = [];
      drawn_is = sym (append-nil (drawn (nodes_of b p)));
      added = adds_nothing s w;
      at = record { within = (drawn_within b p rules).0; text_is = none };
    }

one_more : (f : ℕ → List ℕ) (done : List ℕ) (n : ℕ)
    → flat_map f done ++ f n ≡ flat_map f (done ++ n ∷ [])
one_more f done n =
    ap (λ x. flat_map f done ++ x) (sym (append-nil (f n)))
    ∙ sym (flat_map-append f done (n ∷ []))

-- One more node was added.
pub drawn_more : (b : Bool) (p : State) (n : ℕ) (next : Option ℕ) (above other : List ℕ)
    {s0 s1 s2 : Sheet} {w0 w1 w2 : Option (List ℕ)} → IsDrawnTo b p (Some n) above s0 s1 w0 w1
    → Adds (node_line b p n) s1 s2 w1 w2
    → drawn_from (nodes_of b p) n ≡ n ∷ drawn_next (nodes_of b p) next
    → IfSome next (λ m. IsAt (nodes_of b p) m other)
    → IsDrawnTo b p next other s0 s2 w0 w2
drawn_more b p n next above other {s0 = s0} {s2 = s2} {w0 = w0} {w2 = w2} to one e at =
    let rest = drawn_next (nodes_of b p) next in
    record {
      done = to.done ++ n ∷ [];
      drawn_is = to.drawn_is ∙ ap (λ x. to.done ++ x) e
          ∙ sym (append_assoc to.done (n ∷ []) rest);
      added = subst (λ t. Adds t s0 s2 w0 w2) (one_more (node_line b p) to.done n)
          (adds_then to.added one);
      at = at;
    }

-- ---- a line

-- Nothing comes before the text in root's line.
pub root_added : (b : Bool) (p : State) (n : ℕ) {s0 s1 : Sheet} {w0 w1 : Option (List ℕ)}
    → n ≡ 0 → Adds (own_line b p n) s0 s1 w0 w1 → Adds (node_line b p n) s0 s1 w0 w1
root_added b p n {s0 = s0} {s1 = s1} {w0 = w0} {w1 = w1} e own =
    subst (λ t. Adds t s0 s1 w0 w1)
    (sym (ap (λ m. lead (nodes_of b p) m ++ own_line b p n) e)) own

lead_is : (parents : List ℕ) (n : ℕ) (a m : List ℕ) → (n ≡ 0 → ⊥)
    → IsAt parents n a → m ≡ mark parents n → a ++ m ≡ lead parents n
lead_is parents n a m other at e =
    ap (λ t. t ++ m) at.text_is ∙ ap (λ t. above parents n ++ t) e
    ∙ sym (ap (λ b. if b then [] else (above parents n ++ mark parents n)) (ne_eqb n 0 other))

-- The branches above a node and its mark come before the text in the line of every other node.
pub node_added : (b : Bool) (p : State) (ps : List ℕ) (n : ℕ) {a m : List ℕ}
    {s0 s1 s2 s3 : Sheet} {w0 w1 w2 w3 : Option (List ℕ)} → ps ≡ nodes_of b p
    → (n ≡ 0 → ⊥) → IsAt ps n a → m ≡ mark ps n → Adds a s0 s1 w0 w1 → Adds m s1 s2 w1 w2
    → Adds (own_line b p n) s2 s3 w2 w3 → Adds (node_line b p n) s0 s3 w0 w3
node_added b p ps n {a = a} {m = m} {s0 = s0} {s3 = s3} {w0 = w0} {w3 = w3}
    same other at e one two own =
    subst (λ t. Adds (t ++ own_line b p n) s0 s3 w0 w3)
    (lead_is ps n a m other at e ∙ ap (λ x. lead x n) same)
    (adds_then (adds_then one two) own)

-- ---- the parents

-- Each row has a parent.
pub as_many : (rows : RowKind) (p : State) → length (parents_in rows p) ≡ count_of rows p
as_many Scopes p = length-map p.tree.scopes (λ row. row.parent)
as_many Groups p = length-map p.work.groups (λ row. row.scope)
as_many Tasks p = length-map p.work.tasks (λ row. length p.tree.scopes + row.group)

taken_one : (ns : List ℕ) (i n : ℕ) → slice_get ns i ≡ Some n
    → take (suc i) ns ≡ take i ns ++ n ∷ []
taken_one [] i n e = absurd (cc)
taken_one (first ∷ ns) zero n e =
    let same : first ≡ n = cc in ap (λ x. x ∷ []) same
taken_one (first ∷ ns) (suc i) n e = ap (λ x. first ∷ x) (taken_one ns i n e)

-- One more number was appended.
pub one_pushed : (ns : List ℕ) (i n : ℕ) (start items : List ℕ) → slice_get ns i ≡ Some n
    → items ≡ start ++ take i ns → items ++ n ∷ [] ≡ start ++ take (i + 1) ns
one_pushed ns i n start items found e =
    ap (λ t. t ++ n ∷ []) e ∙ append_assoc start (take i ns) (n ∷ [])
    ∙ ap (λ t. start ++ t) (sym (taken_one ns i n found))
    ∙ ap (λ k. start ++ take k ns) (sym (add-one i))

-- The number fits.
pub one_fits : (ns : List ℕ) (i most : ℕ) (start items : List ℕ)
    → items ≡ start ++ take i ns → i < length ns → length start + length ns ≤ most
    → length items < most
one_fits ns i most start items e less few =
    let long = ap length e in
    let sum = length-append start (take i ns) in
    let prefix = length-take-le i ns (omega (arith, less)) in
    omega (arith, long, sum, prefix, less, few)

-- Each place below the length has a number.
pub has_one : (ns : List ℕ) (i : ℕ) → i < length ns → slice_get ns i ≡ None → ⊥
has_one [] i less e = omega (arith, less)
has_one (n ∷ ns) zero less e = cc
has_one (n ∷ ns) (suc i) less e = has_one ns i (omega (arith, less)) e

-- The parents of these rows were added to those that were known.
pub grown : (rows : RowKind) (p : State) (old new : List ℕ) → new ≡ old ++ parents_in rows p
    → length new ≡ length old + count_of rows p
grown rows p old new e =
    ap length e ∙ length-append old (parents_in rows p)
    ∙ ap (λ n. length old + n) (as_many rows p)

-- The parents of all nodes are those of the scopes, of the groups and of the tasks. Without the
-- tasks they are those of the scopes and the groups.
pub branches_are : (p : State) (none one two : List ℕ) → none ≡ []
    → one ≡ none ++ parents_in Scopes p → two ≡ one ++ parents_in Groups p → two ≡ branches_of p
branches_are p none one two e a b =
    b ∙ ap (λ t. t ++ parents_in Groups p) (a ∙ ap (λ t. t ++ parents_in Scopes p) e)

pub parents_are : (p : State) (two all : List ℕ) → two ≡ branches_of p
    → all ≡ two ++ parents_in Tasks p → all ≡ parents_of p
parents_are p two all b c =
    c ∙ ap (λ t. t ++ parents_in Tasks p) b
    ∙ append_assoc (parents_in Scopes p) (parents_in Groups p) (parents_in Tasks p)

mapped : {A B C : Type 0} (f : B → C) (g : A → B) (o : Option A)
    → option_map f (option_map g o) ≡ option_map (λ x. f (g x)) o
mapped f g None = refl
mapped f g (Some x) = refl

-- The parent of a task is known from the answer about the task.
pub task_parent : (p : State) (n scopes : ℕ) (look : TaskLook) → scopes ≡ length p.tree.scopes
    → Some look ≡ task_look_of p n → Some (scopes + look.group) ≡ slice_get (parents_in Tasks p) n
task_parent p n scopes look e found =
    ap (λ k. Some (k + look.group)) e
    ∙ ap (option_map (λ (seen : TaskLook). length p.tree.scopes + seen.group)) found
    ∙ mapped (λ (seen : TaskLook). length p.tree.scopes + seen.group) _
    (slice_get p.work.tasks n)
    ∙ sym (slice_get-map (λ (row : Task). length p.tree.scopes + row.group) p.work.tasks n)
