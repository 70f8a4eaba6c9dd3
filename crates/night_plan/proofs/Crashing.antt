-- Nights over crashes.
use Rattle.std.proofs.Common.{◌≡◌, ◌<◌, ◌≤◌, ◌+◌, ◌++◌, ◌∙◌, ◌⊎◌, inl, inr, ℕ, suc, zero, Bool}
use Rattle.std.proofs.Common.{true, false}
use Rattle.std.proofs.Common.{cond, List, [], ◌∷◌, Option, Some, slice_get, get_or, length, take}
use Rattle.std.proofs.Common.{refl}
use Rattle.std.proofs.Common.{ap, sym, subst, arith}
use Rattle.std.proofs.lemmas.Bool.{eq-eqb}
use Rattle.std.proofs.lemmas.List.Sums.{sum_by-cons}
use Rattle.std.proofs.lemmas.Option.{slice_get-map, slice_get_within}
use Rattle.std.specs.Prelude.{Contains}
use Rattle.std.specs.Option.{option_map}
use Rattle.night_plan.specs.declared.commands.Command.{Command}
use Rattle.night_plan.specs.declared.facts.Phase.{Phase}
use Rattle.night_plan.specs.declared.facts.Phase.TheVariants as phase
use Rattle.night_plan.specs.declared.facts.Known.{Known}
use Rattle.night_plan.specs.declared.commands.Need.{Need}
use Rattle.night_plan.specs.declared.commands.When.TheVariants as when
use Rattle.night_plan.specs.Plans.{horizon, names, HasNeed}
use Rattle.night_plan.specs.Nights.{IsMetBy, Names}
use Rattle.night_plan.specs.Nights.{Night, is_busy, is_ok, runs, has_ended_ok}
use Rattle.night_plan.specs.Turns.{Turn, Begin, EndOk, after, May, Lead, IsFresh, begins}
use Rattle.night_plan.specs.Turns.{begins_in}
use Rattle.night_plan.specs.Turns.{interruptions, interrupts_in, turned}
use Rattle.night_plan.specs.Sessions.{Session, reopened, restarted, after_all, IsSession, next}
use Rattle.night_plan.specs.Sessions.{AreSessions, reported, stopped}
use Rattle.night_plan.proofs.Rows.{at_is, at_there, row_at}
use Rattle.night_plan.proofs.Lasting.{turned_at, ok_stays, begun_no_more, ended_among, ready_from}
use Rattle.night_plan.proofs.Lasting.{Balanced, bounded, stays_balanced}

-- A prefix of the turns may come too.
lead_prefix : (turns : List Turn) (n : Night) (k : ℕ) → Lead n turns (after_all n turns)
    → Lead n (take k turns) (after_all n (take k turns))
lead_prefix turns n zero led = refl
lead_prefix [] n (suc k) led = refl
lead_prefix (t ∷ turns) n (suc k) led = (led.0, lead_prefix turns (after n t) k led.1)

-- What has ended ok stays so.
ok_lasts : (turns : List Turn) (n m : Night) (c : ℕ) → has_ended_ok n c ≡ true → Lead n turns m
    → has_ended_ok m c ≡ true
ok_lasts [] n m c ok led = subst (λ x. has_ended_ok x c ≡ true) led ok
ok_lasts (t ∷ turns) n m c ok led =
    let it = at_there n c (λ x f. is_ok f.phase) ok in
    let kept = ok_stays n t c it.0 it.1 led.0 it.2 it.3 it.4 in
    ok_lasts turns (after n t) m c
    (at_is (after n t) c it.0 (turned t c it.1) it.2 (turned_at n t c it.1 it.3)
    (λ x f. is_ok f.phase)
    ∙ kept.0) led.1

restarted_at : (n : Night) (c : ℕ) (k : Known) → slice_get n.known c ≡ Some k
    → slice_get (restarted n).known c ≡ Some (record k { phase = reopened k.phase })
restarted_at n c k is =
    slice_get-map (λ (x : Known). record x { phase = reopened x.phase }) n.known c
    ∙ ap (λ (o : Option Known). option_map (λ (x : Known). record x { phase = reopened x.phase })
    o) is

reopened_ok : (p : Phase) → is_ok p ≡ true → is_ok (reopened p) ≡ true
reopened_ok phase.Fresh ok = ok
reopened_ok phase.Busy ok = ok
reopened_ok phase.EndedOk ok = refl
reopened_ok (phase.Failed last) ok = ok
reopened_ok phase.Interrupted ok = ok
reopened_ok phase.Canceled ok = ok

ok_restarted : (n : Night) (c : ℕ) → has_ended_ok n c ≡ true → has_ended_ok (restarted n) c ≡ true
ok_restarted n c ok =
    let it = at_there n c (λ x f. is_ok f.phase) ok in
    at_is (restarted n) c it.0 _ it.2 (restarted_at n c it.1 it.3) (λ x f. is_ok f.phase)
    ∙ reopened_ok it.1.phase it.4

-- A command whose end was among the turns has ended ok after them.
ends_ok : (turns : List Turn) (n m : Night) (c k : ℕ) → k < length turns
    → get_or turns k (EndOk c) ≡ EndOk c → Lead n turns m → has_ended_ok m c ≡ true
ends_ok [] n m c k below is led = absurd (omega arith)
ends_ok (t ∷ turns) n m c (suc k) below is led =
    ends_ok turns (after n t) m c k (omega (arith, below)) is led.1
ends_ok (t ∷ turns) n m c zero below is led =
    ok_lasts turns (after n t) m c (ended (subst (May n) is led.0)) led.1
  where
    ended : runs n c ≡ true → has_ended_ok (after n t) c ≡ true
    ended ran =
        let it = at_there n c (λ x f. is_busy f.phase) ran in
        subst (λ u. has_ended_ok (after n u) c ≡ true) (sym is)
        (at_is (after n (EndOk c)) c it.0 (turned (EndOk c) c it.1) it.2
        (turned_at n (EndOk c) c it.1 it.3) (λ x f. is_ok f.phase)
        ∙ ap (λ (b : Bool). is_ok (cond b (record it.1 { phase = phase.EndedOk }) it.1).phase)
        (eq-eqb c c refl))

-- ---- reported no more

begins_prefix : (c : ℕ) (turns : List Turn) (k : ℕ) → begins c (take k turns) ≤ begins c turns
begins_prefix c turns zero = omega arith
begins_prefix c [] (suc k) = omega arith
begins_prefix c (t ∷ turns) (suc k) =
    let rest = begins_prefix c turns k in
    let one = sum_by-cons (λ x. cond (begins_in c x) 1 0) t turns in
    let two = sum_by-cons (λ x. cond (begins_in c x) 1 0) t (take k turns) in
    omega (arith, rest, one, two)

never_reported : (sessions : List Session) (n : Night) (c : ℕ) → has_ended_ok n c ≡ true
    → AreSessions n sessions → reported c sessions ≡ 0
never_reported [] n c ok are = refl
never_reported (s ∷ sessions) n c ok are =
    let none = begun_no_more s.turns n (after_all n s.turns) c ok are.0.leads in
    let prefix = begins_prefix c s.turns s.acked in
    let rest = never_reported sessions (next n s) c
    (ok_restarted (after_all n (take s.kept s.turns)) c
    (ok_lasts (take s.kept s.turns) n (after_all n (take s.kept s.turns)) c ok
    (lead_prefix s.turns n s.kept are.0.leads))) are.1 in
    omega (arith, none, prefix, rest)

-- An element of a prefix is one of a longer prefix.
prefix_get : (turns : List Turn) (c a b k : ℕ) → a ≤ b → k < length (take a turns)
    → get_or (take a turns) k (EndOk c) ≡ EndOk c
    → (k < length (take b turns)) × (get_or (take b turns) k (EndOk c) ≡ EndOk c)
prefix_get turns c zero b k less below is = absurd (omega arith)
prefix_get [] c (suc a) b k less below is = absurd (omega arith)
prefix_get (t ∷ turns) c (suc a) zero k less below is = absurd (omega arith)
prefix_get (t ∷ turns) c (suc a) (suc b) zero less below is = (omega arith, is)
prefix_get (t ∷ turns) c (suc a) (suc b) (suc k) less below is =
    let rest = prefix_get turns c a b k (omega (arith, less)) (omega (arith, below)) is in
    (omega (arith, rest.0), rest.1)

pub reported_no_more : (n : Night) (s : Session) (sessions : List Session) (c : ℕ)
    → AreSessions n (s ∷ sessions) → Contains (take s.acked s.turns) (EndOk c)
    → reported c sessions ≡ 0
reported_no_more n s sessions c are has =
    let kept = prefix_get s.turns c s.acked s.kept has.0 are.0.acked has.1 has.2 in
    never_reported sessions (next n s) c
    (ok_restarted (after_all n (take s.kept s.turns)) c
    (ends_ok (take s.kept s.turns) n (after_all n (take s.kept s.turns)) c has.0 kept.0 kept.1
    (lead_prefix s.turns n s.kept are.0.leads))) are.1

-- ---- reported so often

begins_prefixs : (c : ℕ) (turns : List Turn) (a b : ℕ) → a ≤ b
    → begins c (take a turns) ≤ begins c (take b turns)
begins_prefixs c turns zero b less = omega arith
begins_prefixs c [] (suc a) zero less = omega arith
begins_prefixs c [] (suc a) (suc b) less = omega arith
begins_prefixs c (t ∷ turns) (suc a) zero less = absurd (omega arith)
begins_prefixs c (t ∷ turns) (suc a) (suc b) less =
    let rest = begins_prefixs c turns a b (omega (arith, less)) in
    let one = sum_by-cons (λ x. cond (begins_in c x) 1 0) t (take a turns) in
    let two = sum_by-cons (λ x. cond (begins_in c x) 1 0) t (take b turns) in
    omega (arith, rest, one, two)

-- How a command's begins add up after some turns.
record IsBalanced (m : Night) (c retries b i : ℕ) : Type 0 where
  fact : Known
  is : slice_get m.known c ≡ Some fact
  sums : Balanced fact.phase fact.failures retries b i

balanced_after : (turns : List Turn) (n : Night) (c : ℕ) (command : Command) (b i : ℕ)
    → Lead n turns (after_all n turns) → slice_get n.commands c ≡ Some command
    → IsBalanced n c command.retries b i
    → IsBalanced (after_all n turns) c command.retries (b + begins c turns)
    (i + interruptions c turns)
balanced_after [] n c command b i led is balance =
    let eb : b ≡ b + begins c [] = (let none : begins c [] ≡ 0 = refl in omega (arith, none)) in
    let ei : i ≡ i + interruptions c [] =
    (let none : interruptions c [] ≡ 0 = refl in omega (arith, none)) in
    subst (λ x. IsBalanced n c command.retries x (i + interruptions c [])) eb
    (subst (λ x. IsBalanced n c command.retries b x) ei balance)
balanced_after (t ∷ turns) n c command b i led is balance =
    let one = sum_by-cons (λ x. cond (begins_in c x) 1 0) t turns in
    let two = sum_by-cons (λ x. cond (interrupts_in c x) 1 0) t turns in
    let eb : b + cond (begins_in c t) 1 0 + begins c turns ≡ b + begins c (t ∷ turns) =
    omega (arith, one) in
    let ei : i + cond (interrupts_in c t) 1 0 + interruptions c turns
    ≡ i + interruptions c (t ∷ turns) = omega (arith, two) in
    subst (λ x. IsBalanced (after_all (after n t) turns) c command.retries x
    (i + interruptions c (t ∷ turns))) eb
    (subst (λ x. IsBalanced (after_all (after n t) turns) c command.retries
    (b + cond (begins_in c t) 1 0 + begins c turns) x) ei
    (balanced_after turns (after n t) c command (b + cond (begins_in c t) 1 0)
    (i + cond (interrupts_in c t) 1 0) led.1 is (record {
      fact = turned t c balance.fact;
      is = turned_at n t c balance.fact balance.is;
      sums = stays_balanced n t c command balance.fact b i led.0 is balance.is balance.sums;
    })))

-- A crash is one more interruption at most.
reopened_balanced : (p : Phase) (failures retries b i : ℕ) → Balanced p failures retries b i
    → (j : ℕ) × (j ≤ 1) × Balanced (reopened p) failures retries b (i + j)
reopened_balanced phase.Fresh failures retries b i is =
    (0, omega arith, (omega (arith, is.0), is.1))
reopened_balanced phase.Busy failures retries b i is =
    (1, omega arith, (omega (arith, is.0), is.1))
reopened_balanced phase.EndedOk failures retries b i is =
    (0, omega arith, (omega (arith, is.0), is.1))
reopened_balanced (phase.Failed last) failures retries b i is =
    (0, omega arith, (omega (arith, is.0), is.1))
reopened_balanced phase.Interrupted failures retries b i is =
    (0, omega arith, (omega (arith, is.0), is.1))
reopened_balanced phase.Canceled failures retries b i is =
    (0, omega arith, (omega (arith, is.0), is.1))

same_after : (turns : List Turn) (n : Night) → (after_all n turns).commands ≡ n.commands
same_after [] n = refl
same_after (t ∷ turns) n = same_after turns (after n t)

reported_often : (sessions : List Session) (n : Night) (c : ℕ) (command : Command) (b i : ℕ)
    → AreSessions n sessions → slice_get n.commands c ≡ Some command
    → IsBalanced n c command.retries b i
    → b + reported c sessions ≤ 1 + command.retries + (i + (stopped c sessions + length sessions))
reported_often [] n c command b i are is balance =
    let bound = bounded balance.fact.phase balance.fact.failures command.retries b i
    balance.sums in
    omega (arith, bound)
reported_often (s ∷ sessions) n c command b i are is balance =
    let kept = take s.kept s.turns in
    let later = balanced_after kept n c command b i (lead_prefix s.turns n s.kept are.0.leads) is
    balance in
    let open_again = reopened_balanced later.fact.phase later.fact.failures command.retries
    (b + begins c kept) (i + interruptions c kept) later.sums in
    let rest = reported_often sessions (next n s) c command (b + begins c kept)
    (i + interruptions c kept + open_again.0) are.1
    (ap (λ (xs : List Command). slice_get xs c) (same_after kept n) ∙ is) (record {
      fact = _;
      is = restarted_at (after_all n kept) c later.fact later.is;
      sums = open_again.2;
    }) in
    let prefixes = begins_prefixs c s.turns s.acked s.kept are.0.acked in
    let once = open_again.1 in
    omega (arith, rest, prefixes, once)

pub bounded_reports : (n : Night) (sessions : List Session) (c : ℕ) (command : Command) → IsFresh n
    → AreSessions n sessions → slice_get n.commands c ≡ Some command
    → length n.known ≡ length n.commands
    → reported c sessions ≤ 1 + command.retries + (stopped c sessions + length sessions)
bounded_reports n sessions c command fresh are is alike =
    let within : c < length n.known =
    (let below = slice_get_within n.commands c command is in omega (arith, alike, below)) in
    let fact = row_at n.known c within in
    let start : Balanced phase.Fresh 0 command.retries 0 0 = (refl, omega arith) in
    let all = reported_often sessions n c command 0 0 are is (record {
      fact = record { phase = phase.Fresh; failures = 0; canceled = false };
      is = fact.1 ∙ ap Some (fresh c fact.0 fact.1);
      sums = start;
    }) in
    omega (arith, all)

-- ---- reported in order

lead_split : (prefix : List Turn) (n m : Night) (t : Turn) (rest : List Turn)
    → Lead n (prefix ++ t ∷ rest) m
    → Lead n prefix (after_all n prefix) × May (after_all n prefix) t
lead_split [] n m t rest led = (refl, led.0)
lead_split (u ∷ prefix) n m t rest led =
    let later = lead_split prefix (after n u) m t rest led.1 in ((led.0, later.0), later.1)

prefix_contains : (prefix rest : List Turn) (x : Turn) (a k : ℕ) → length prefix ≤ a
    → k < length prefix → get_or prefix k x ≡ x
    → (k < length (take a (prefix ++ rest))) × (get_or (take a (prefix ++ rest)) k x ≡ x)
prefix_contains [] rest x a k le below is = absurd (omega arith)
prefix_contains (t ∷ prefix) rest x zero k le below is = absurd (omega arith)
prefix_contains (t ∷ prefix) rest x (suc a) zero le below is = (omega arith, is)
prefix_contains (t ∷ prefix) rest x (suc a) (suc k) le below is =
    let more = prefix_contains prefix rest x a k (omega (arith, le)) (omega (arith, below)) is in
    (omega (arith, more.0), more.1)

same_first : (turns : List Turn) (n : Night) → (after_all n turns).first ≡ n.first
same_first [] n = refl
same_first (t ∷ turns) n = same_first turns (after n t)

pub reported_in_order : (n : Night) (s : Session) (prefix : List Turn) (now c d : ℕ)
    (sizes chosen : List ℕ) (rest : List Turn) (need : Need) → IsSession n s
    → s.turns ≡ prefix ++ Begin now sizes chosen ∷ rest → length prefix < s.acked
    → Contains chosen c → HasNeed n.commands c need → need.when ≡ when.Well → Names n c need d
    → (has_ended_ok n d ≡ true) ⊎ Contains (take s.acked s.turns) (EndOk d)
reported_in_order n s prefix now c d sizes chosen rest need is split early listed has well named =
    let m = after_all n prefix in
    let led = lead_split prefix n (after_all n s.turns) (Begin now sizes chosen) rest
    (subst (λ xs. Lead n xs (after_all n s.turns)) split is.leads) in
    let ready = ready_from m now c sizes chosen led.1 listed in
    let has_too : HasNeed m.commands c need =
    subst (λ (xs : List Command). HasNeed xs c need) (sym (same_after prefix n)) has in
    let named_too : Names m c need d =
    ap (λ (xs : List Command). names xs (horizon m.first c) need.of d) (same_after prefix n)
    ∙ ap (λ (k : ℕ). names n.commands (horizon k c) need.of d) (same_first prefix n) ∙ named in
    let met = subst (IsMetBy m c need) well (ready.may.met need has_too) d named_too in
    elim (ended_among prefix n m d led.0 met) [
      | inl before ↦ inl before
      | inr there ↦
          let it = prefix_contains prefix (Begin now sizes chosen ∷ rest) (EndOk d) s.acked there.0
          (omega (arith, early)) there.1 there.2 in
          inr (subst (λ xs. Contains (take s.acked xs) (EndOk d)) (sym split)
          (there.0, it.0, it.1))
    ]
