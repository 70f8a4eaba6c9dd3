use Rattle.std.proofs.Common.{refl}
use Rattle.model_laws.proofs.LayoutStays.{layout_after, layout_run}
use Rattle.model_laws.proofs.layouts.the_layout_stays.Goals as goal

pub returns : goal.returns
returns c = record {
  events = λ p q event layout. layout_after p q event layout;
  runs = λ p q events layout. layout_run events p q layout;
  formatted = λ layout. record { tree = refl; work = refl };
  one = λ p kept. record { tree = refl; work = kept.numbered.one_layout };
}
