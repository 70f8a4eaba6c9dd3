use Rattle.run_model.proofs.Common.{◌≡◌, ◌+◌, ◌-◌, ◌*◌, ◌≤◌, ◌<◌, ℕ, length, Some, slice_get, sym}
use Rattle.run_model.proofs.Common.{ap, subst, ◌∙◌, length-drop, flat_map, AllByRecursion, IsTrue}
use Rattle.run_model.proofs.Common.{TreeState}
use Rattle.run_model.specs.declared.scopes.Scope.{Scope}
use Rattle.row_view.specs.Image.{is_kept_scope, scope_bytes}
use Rattle.row_view.specs.Writing.{put_at}
use Rattle.scope_tree.specs.TreeRows.{AreWritable}
use Rattle.state_renewal.proofs.Renewing.{after_known, after_lent, after_writable, scopes_lent}
use Rattle.state_renewal.proofs.wholes.Renewal.put_renewed_scopes.Goals as goal

pub put_scopes-requires : goal.put_scopes-requires
put_scopes-requires g c =
    let p = c.args.state.now in
    let rules = c.count-rules.ensures.rules in
    let each = c.requires.marks.each_scope in
    let flags = after_lent c.args.self.now.scopes c.flags-flags.result.now
    c.flags-flags.ensures in
    let rows = after_lent p.tree.scopes c.rows-rows.result.now
    (c.rows-rows.ensures ∙ ap (λ (t : TreeState). t.scopes) c.tree.ensures) in
    let left = scopes_lent p c.args.self.now.scopes c.args.self.now.groups
    c.args.self.now.tasks c.requires.marks _ _ rules flags rows in
    record {
      each =
          ap (λ l. length l) flags ∙ length-drop 1 c.args.self.now.scopes
          ∙ ap (λ n. n - 1) each ∙ sym (length-drop 1 p.tree.scopes)
          ∙ ap (λ l. length l) (sym rows);
      rows = subst AreWritable (sym rows) (after_writable p rules);
      known =
          subst (λ l. (n : ℕ) (row : Scope) → slice_get l n ≡ Some row
          → row.parent < length c.args.self.now.scopes) (sym rows)
          (after_known p (length c.args.self.now.scopes) rules each);
      room =
          subst (λ l. c.args.at + 192 * length l ≤ length c.args.out.now) (sym left)
          c.requires.room;
    }

pub returns : goal.returns
returns g c =
    let p = c.args.state.now in
    let put = c.put_scopes.ensures in
    let flags = after_lent c.args.self.now.scopes c.flags-flags.result.now
    c.flags-flags.ensures in
    let rows = after_lent p.tree.scopes c.rows-rows.result.now
    (c.rows-rows.ensures ∙ ap (λ (t : TreeState). t.scopes) c.tree.ensures) in
    let left = scopes_lent p c.args.self.now.scopes c.args.self.now.groups
    c.args.self.now.tasks c.requires.marks _ _
    c.count-rules.ensures.rules flags rows in
    record {
      end = put.end ∙ ap (λ l. c.args.at + length (flat_map scope_bytes l)) left;
      written =
          put.written
          ∙ ap (λ l. put_at c.args.out.now c.args.at (flat_map scope_bytes l)) left;
      kept =
          subst (AllByRecursion (λ (row : Scope). IsTrue (is_kept_scope row))) left put.kept;
      most =
          subst (λ l. c.put_scopes.result ≤ c.args.at + 192 * length l) left put.most;
    }
