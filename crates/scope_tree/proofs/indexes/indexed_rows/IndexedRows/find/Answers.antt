use Rattle.run_model.proofs.Common.{◌≡◌, ℕ, List, Option, ap, ◌∙◌, bytes_eq, subst, sym}
use Rattle.run_model.specs.declared.scopes.Scope.{Scope}
use Rattle.std.specs.List.{position}
use Rattle.scope_tree.specs.IndexedRows.{Numbered}
use Rattle.scope_tree.specs.Names.{AreNamed, names_of}
use Rattle.scope_tree.proofs.Naming.{Walking, walk_starts, walk_inside, walk_linked, walk_finds}
use Rattle.scope_tree.proofs.Naming.{walk_goes_on, no_place}
use Rattle.scope_tree.proofs.indexes.indexed_rows.IndexedRows.find.Goals as goal

-- The rows that are lent are named as those inside are.
named : (rows lent : List Scope) (keys : List (Option ℕ)) → lent ≡ rows
    → AreNamed (names_of rows) keys → AreNamed (names_of lent) keys
named rows lent keys same are = subst (λ l. AreNamed (names_of l) keys) (sym same) are

pub loop-at-init : goal.loop-at-init
loop-at-init g c =
    walk_starts (names_of c.as_slice-scopes.result.now) c.self.inside.names.keys c.args.name.now
    c.home.result c.last-at.result
    (named _ _ _ c.as_slice-scopes.ensures.value c.self.invariant.found.named) c.home.ensures.home
    c.last-at.ensures

pub bounds-scopes-n : goal.bounds-scopes-n
bounds-scopes-n g c =
    walk_inside c.as_slice-scopes.result.now c.self.inside.names.keys c.args.name.now _ c.in-Some.n
    (named _ _ _ c.as_slice-scopes.ensures.value c.self.invariant.found.named) c.loop-at.invariant
    c.in-Some.is

pub returns-then-is_spelled : goal.returns-then-is_spelled
returns-then-is_spelled g c =
    walk_finds c.as_slice-scopes.result.now c.self.inside.names.keys c.args.name.now _ c.in-Some.n
    (named _ _ _ c.as_slice-scopes.ensures.value c.self.invariant.found.named) c.loop-at.invariant
    c.in-Some.is c.index-scopes-n.result _ c.index-scopes-n.is
    c.as_bytes.ensures.value c.if-is_spelled.ensures
    ∙ ap (position (λ row. bytes_eq c.args.name.now row.name))
    (c.as_slice-scopes.ensures.value ∙ ap (λ (r : Numbered). r.rows) c.self.view_is)

pub before-at-requires : goal.before-at-requires
before-at-requires g c =
    walk_linked c.as_slice-scopes.result.now c.self.inside.names.keys c.args.name.now _ c.in-Some.n
    (named _ _ _ c.as_slice-scopes.ensures.value c.self.invariant.found.named) c.loop-at.invariant
    c.in-Some.is

pub loop-at-preserved : goal.loop-at-preserved
loop-at-preserved g c =
    walk_goes_on c.as_slice-scopes.result.now c.self.inside.names.keys c.args.name.now _
    c.in-Some.n (named _ _ _ c.as_slice-scopes.ensures.value c.self.invariant.found.named)
    c.loop-at.invariant c.in-Some.is c.index-scopes-n.result _
    c.index-scopes-n.is c.as_bytes.ensures.value c.if-is_spelled.ensures _ c.before-at.ensures

pub returns : goal.returns
returns g c =
    let rows = c.as_slice-scopes.result.now in
    let name = c.args.name.now in
    sym (no_place rows name
    (subst (Walking (names_of rows) name) c.in_default.is c.loop-at.invariant))
    ∙ ap (position (λ row. bytes_eq c.args.name.now row.name))
    (c.as_slice-scopes.ensures.value ∙ ap (λ (r : Numbered). r.rows) c.self.view_is)
