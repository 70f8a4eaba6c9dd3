-- The states that events lead to, and their images.
use Rattle.run_model.proofs.Common.{◌≡◌, ◌≤◌, List, length, Some, refl, IsTrue, nat_lt, ◌^◌, after}
use Rattle.run_model.proofs.Common.{run, Event, HasLayout, IsConsistent, State, formatted}
use Rattle.run_model.specs.declared.layouts.Layout.{Layout}
use Rattle.run_model.specs.declared.layouts.Layout.TheVariants.{Small, Large}
use Rattle.row_view.specs.declared.heads.ImageVersion.{ImageVersion}
use Rattle.row_view.specs.declared.heads.ImageVersion.TheVariants.{Two}
use Rattle.row_view.specs.Image.{image, head_of, is_kept_head, greatest_image}
use Rattle.row_view.specs.Keeping.{IsInRange, IsImage}
use Rattle.row_view.proofs.ImageLengths.{image_most}
use Rattle.model_laws.proofs.LayoutStays.{layout_after, layout_run}
use Rattle.model_laws.proofs.Starting.{formatted_consistent}
use Rattle.model_laws.proofs.StateSteps.{event_keeps, run_keeps}
use Rattle.scope_tree.specs.Ranges.{has_ranges, HaveRanges}
use Rattle.scope_tree.proofs.EventRanges.{typed_after, typed_run}
use Rattle.scope_tree.proofs.StateRanges.{ranged_of, typed_of}

pub image_of : (layout : Layout) (p : State) → HasLayout p layout → IsConsistent p
    → IsInRange Two layout p → IsImage Two layout (image p) p
image_of layout p has rules ranged =
    record { is = refl; has_layout = has; ranged = ranged; consistent = rules }

has_formatted : (layout : Layout) → HasLayout (formatted layout) layout
has_formatted layout = record { tree = refl; work = refl }

head_at_first : (layout : Layout) → IsTrue (is_kept_head layout (head_of Two (formatted layout)))
head_at_first Small = refl
head_at_first Large = refl

pub first_ranged : (layout : Layout) → IsInRange Two layout (formatted layout)
first_ranged layout =
    record { head = head_at_first layout; scopes = tt; groups = tt; tasks = tt }

pub event_ranged : (version : ImageVersion) (layout : Layout) (p q : State) (event : Event)
    → HasLayout p layout → IsConsistent p → IsInRange version layout p
    → IsTrue (has_ranges event) → after p event ≡ Some q → IsTrue (nat_lt q.count (2 ^ 63))
    → IsInRange Two layout q
event_ranged version layout p q event has rules ranged is led few =
    ranged_of layout q (layout_after p q event layout has led) (event_keeps p q event rules led)
    few
    (typed_after p q event is (typed_of version layout p rules.numbered.rooted ranged) led)

pub run_ranged : (version : ImageVersion) (layout : Layout) (p q : State) (events : List Event)
    → HasLayout p layout → IsConsistent p → IsInRange version layout p → HaveRanges events
    → run p events ≡ Some q → IsTrue (nat_lt q.count (2 ^ 63)) → IsInRange Two layout q
run_ranged version layout p q events has rules ranged are led few =
    ranged_of layout q (layout_run events p q layout has led) (run_keeps events p q rules led)
    few
    (typed_run events p q are (typed_of version layout p rules.numbered.rooted ranged) led)

pub run_image : (version : ImageVersion) (layout : Layout) (p q : State) (events : List Event)
    → HasLayout p layout → IsConsistent p → IsInRange version layout p → HaveRanges events
    → run p events ≡ Some q → IsTrue (nat_lt q.count (2 ^ 63)) → IsImage Two layout (image q) q
run_image version layout p q events has rules ranged are led few =
    image_of layout q (layout_run events p q layout has led) (run_keeps events p q rules led)
    (run_ranged version layout p q events has rules ranged are led few)

pub history_image : (layout : Layout) (p : State) (events : List Event) → HaveRanges events
    → run (formatted layout) events ≡ Some p → IsTrue (nat_lt p.count (2 ^ 63))
    → IsImage Two layout (image p) p
history_image layout p events are led few =
    run_image Two layout (formatted layout) p events (has_formatted layout)
    (formatted_consistent layout) (first_ranged layout) are led few

pub history_most : (layout : Layout) (p : State) (events : List Event) → HaveRanges events
    → run (formatted layout) events ≡ Some p → IsTrue (nat_lt p.count (2 ^ 63))
    → length (image p) ≤ greatest_image Two layout
history_most layout p events are led few =
    image_most Two layout (image p) p (history_image layout p events are led few)
