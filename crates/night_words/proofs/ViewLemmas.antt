-- Which view is asked for, where the words that were found are looked for in two ways.
use Rattle.std.proofs.Common.{◌≡◌, ◌∙◌, Bool, Option, ap, false, inl, inr, true}
use Rattle.std.specs.Prelude.{◌&&◌, ◌||◌, Result, Ok, Err, codes, is_some, not}
use Rattle.std.specs.Borrow.{Bor}
use Rattle.clap.specs.Walk.{Text}
use Rattle.night_words.specs.Commands.{AsksSome, AsksViews, IsView, are_two, asks_some, asks_tasks}
use Rattle.night_words.specs.Commands.{is_true, lacks_tree, names_phase}
use Rattle.state_views.specs.declared.views.View.{View}
use Rattle.state_views.specs.declared.views.View.TheVariants.{Json, Summary, Tasks, Tree, Whole}
use Rattle.night_words.specs.declared.faults.WordsFault.{WordsFault}
use Rattle.night_words.specs.declared.faults.WordsFault.TheVariants.{NoTree, Phase, Views}

module _ (a b : Text → Option Text) (same : (id : Text) → a id ≡ b id) where
  flag_alike : (id : Text) → is_true (a id) ≡ is_true (b id)
  flag_alike id = ap is_true (same id)

  some_alike : asks_some a ≡ asks_some b
  some_alike =
      ap (λ x. is_some x || is_some (a (codes "group"))) (same (codes "phase"))
      ∙ ap (λ x. is_some (b (codes "phase")) || is_some x) (same (codes "group"))

  asks_alike : asks_tasks a ≡ asks_tasks b
  asks_alike =
      ap (λ x. x || (asks_some a && not (is_true (a (codes "json"))))) (flag_alike (codes "tasks"))
      ∙ ap (λ x. is_true (b (codes "tasks")) || (x && not (is_true (a (codes "json")))))
      some_alike
      ∙ ap (λ x. is_true (b (codes "tasks")) || (asks_some b && not x)) (flag_alike (codes "json"))

  lacks_alike : lacks_tree a ≡ lacks_tree b
  lacks_alike =
      ap (λ x. x && not (is_true (a (codes "tree")))) (flag_alike (codes "no-tasks"))
      ∙ ap (λ x. is_true (b (codes "no-tasks")) && not x) (flag_alike (codes "tree"))

  phase_alike : names_phase (a (codes "phase")) ≡ names_phase (b (codes "phase"))
  phase_alike = ap names_phase (same (codes "phase"))

  pub views_alike : (t j r s n : Bool) → AsksViews t j r s n b → AsksViews t j r s n a
  views_alike t j r s n is = (
    asks_alike ∙ is.0,
    flag_alike (codes "json") ∙ is.1,
    flag_alike (codes "tree") ∙ is.2,
    flag_alike (codes "summary") ∙ is.3,
    flag_alike (codes "no-tasks") ∙ is.4,
  )

  tasks_alike : (phase group : Option (Bor Text)) → AsksSome phase group b
      → AsksSome phase group a
  tasks_alike phase group is = (
    same (codes "phase") ∙ is.0,
    same (codes "group") ∙ is.1,
    phase_alike ∙ is.2,
  )

  pub view_alike : (view : Result View WordsFault) → IsView b view → IsView a view
  view_alike (Ok Whole) is = views_alike false false false false false is
  view_alike (Ok (Tasks phase group)) is =
      (views_alike true false false false false is.0, tasks_alike phase group is.1)
  view_alike (Ok (Json phase group)) is =
      (views_alike false true false false false is.0, tasks_alike phase group is.1)
  view_alike (Ok (Tree no_tasks)) is = views_alike false false true false no_tasks is
  view_alike (Ok Summary) is = views_alike false false false true false is
  view_alike (Err NoTree) is = lacks_alike ∙ is
  view_alike (Err Views) is = (
    lacks_alike ∙ is.0,
    ap (λ x. are_two x (is_true (a (codes "json"))) (is_true (a (codes "tree")))
        (is_true (a (codes "summary")))) asks_alike
        ∙ ap (λ x. are_two (asks_tasks b) x (is_true (a (codes "tree")))
        (is_true (a (codes "summary")))) (flag_alike (codes "json"))
        ∙ ap (λ x. are_two (asks_tasks b) (is_true (b (codes "json"))) x
        (is_true (a (codes "summary")))) (flag_alike (codes "tree"))
        ∙ ap (λ x. are_two (asks_tasks b) (is_true (b (codes "json")))
        (is_true (b (codes "tree"))) x) (flag_alike (codes "summary"))
        ∙ is.1,
  )
  view_alike (Err Phase) (inl is, wrong) =
      (inl (views_alike true false false false false is), phase_alike ∙ wrong)
  view_alike (Err Phase) (inr is, wrong) =
      (inr (views_alike false true false false false is), phase_alike ∙ wrong)
  view_alike (Err other) is = absurd is
