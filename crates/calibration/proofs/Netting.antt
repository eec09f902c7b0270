-- 'Netting shrinking classes against growing ones': a prior volume of a class that has no excess doesn't lower RO. With programs that net it
-- does: where a pair has 50,000 now, 50,000 before of another pair lowers it, be they of one territory or of two, of one factor or of two.
-- Assumes nothing.
-- In order: RO of such volumes; programs that net; without groups; within groups.
use Rattle.basics.proofs.Common.{◌≡◌, ℕ, zero, suc, ◌+◌, ◌-◌, ◌*◌, ◌/◌, ◌%◌, ◌^◌, ◌<◌, ◌≤◌, true, eqb, leb, List, [], ◌∷◌, length, get_or, set, replicate, sym, refl, ap, ◌∙◌, mul-le-mul}
use Rattle.basics.proofs.Common.{mul-le-mul_left, arith, length-set, get_or-set_other, get_or-set_same, leb-true, ℕ_discrete, dec_le, length-replicate, get_or-replicate, get_or-eq_default, least}
use Rattle.basics.proofs.Common.{pick, least_of, if_eq, if_ne, by_test, values_same, values}
use Rattle.refusal.specs.Outcome.{Outcome, Outcome.accepted}
use Rattle.amount.specs.Amount.{limit}
use Rattle.sizes.specs.Sizes.{volume_classes, volume_numbers, volume_pairs, general_figures}
use Rattle.guideline.proofs.Charges.{factor_most}
use Rattle.guideline.specs.Operational.{general_requirement, volume_factors, factor_of, current, prior, total, volume, excess, growth, operational_numerator, operational_denominator, RO}
use Rattle.operational.specs.Call.{operational_call}
use Rattle.operational.proofs.Acceptance.{accepts_operational}
use Rattle.calibration.specs.Points.{nothing}
use Rattle.calibration.specs.Miscalibrations.{put_in_place, MeetsOperational, MoreBefore, GrowthNetted, netted_in}

-- ---- RO of such volumes

module _ (k : ℕ) (l m : List ℕ) (v : MoreBefore k l m) where
  excess_same : (i : ℕ) → excess m i ≡ excess l i
  excess_same i =
      elim (ℕ_discrete i k) [
        | yes e ↦ rw e (omega (arith, v.currents k, v.shrinks, v.more))
        | no e ↦ omega (arith, v.currents i, v.priors i e)
      ]

  volume_same : volume m ≡ volume l
  unfolding volume
  volume_same = rw v.long (λ t. total (λ i. factor_of i * v.currents i t) (length l / 2))

  growth_same : growth m ≡ growth l
  unfolding growth
  growth_same = rw v.long (λ t. total (λ i. factor_of i * excess_same i t) (length l / 2))

  ro_same : (g : List ℕ) → RO m g ≡ RO l g
  unfolding RO operational_numerator
  ro_same g = λ t. least (λ r. leb (5 * volume_same t + growth_same t + 5 * general_requirement g) (operational_denominator * r))

-- where a call that meets the contract accepts, its first value is RO
ro_is :
    (call : List ℕ → List ℕ → Outcome) → MeetsOperational call → (l g vs : List ℕ) → length g ≡ general_figures → call l g ≡ accepted vs →
    get_or vs 0 0 ≡ RO l g
ro_is call meets l g vs n e =
    let o = sym (meets l g n) ∙ e in
    let q : vs ≡ RO l g ∷ [] = ((accepts_operational l g).accepted_only vs o).0 in
    ap (λ (x : List ℕ). get_or x 0 0) q

pub growth_netted : (call : List ℕ → List ℕ → Outcome) → MeetsOperational call → GrowthNetted call → ⊥
growth_netted call meets n =
    let l = ro_is call meets n.l n.g n.vs n.general n.before in
    let m = ro_is call meets n.m n.g n.ws n.general n.after in
    omega (arith, n.less, l, m, ro_same n.k n.l n.m n.volumes n.g)

-- ---- programs that net

-- a total of numbers that are 0 but for one
total_one : (f : ℕ → ℕ) (j n : ℕ) → j < n → ((i : ℕ) → ¬ i ≡ j → f i ≡ 0) → total f n ≡ f j
unfolding total
total_one f j zero h z = absurd (omega arith)
total_one f j (suc n) h z =
    elim (ℕ_discrete j n) [
      | yes e ↦ rw e (omega (arith, before n (omega arith)))
      | no e ↦ omega (arith, total_one f j n (omega arith) z, z n (λ q. e (omega arith)))
    ]
  where
    before : (m : ℕ) → m ≤ j → total f m ≡ 0
    before zero l = refl
    before (suc m) l = omega (arith, before m (omega arith), z m (λ q. omega arith))

factor_some : (k : ℕ) → 1 ≤ factor_of k
unfolding values
factor_some k =
    leb-true _ _ (values_same (λ j. leb 1 (get_or volume_factors j 0)) (λ j. true) volume_classes refl (k % volume_classes) (omega arith))

zeros : (n i : ℕ) → ◌≡◌ {A = ℕ} (get_or (replicate n 0) i 0) 0
zeros n i =
    elim (dec_le n i) [
      | yes h ↦ get_or-eq_default (replicate n 0) 0 (omega (arith, length-replicate {A = ℕ} n 0))
      | no h ↦ get_or-replicate {A = ℕ} n i 0 0 (omega arith)
    ]

-- what falls short of a number is rounded up to less than what doesn't
rounded_less :
    (x y c : ℕ) → c < 2 ^ 64 → x ≤ operational_denominator * c → operational_denominator * (c - 1) < x → y ≤ operational_denominator * (c - 1) →
    least (λ r. leb y (operational_denominator * r)) < least (λ r. leb x (operational_denominator * r))
rounded_less x y c lt h low k =
    let rises = λ (m n : ℕ) (le : m ≤ n). mul-le-mul_left operational_denominator le in
    let more = least_of x (λ r. operational_denominator * r) rises c lt h in
    let less = least_of y (λ r. operational_denominator * r) rises (c - 1) (omega arith) k in
    omega (arith, more.reaches, less.first (c - 1) k)

-- RO less what each class falls by, below its prior volume where c is 0 and below 120 % of it where c is 1, be it more than all growth
abbrev pub set_off : ℕ → List ℕ → List ℕ → ℕ
set_off c l g =
    let fallen = total (λ i. factor_of i * ((5 + c) * prior l i - 5 * current l i)) (length l / 2) in
    least (λ r. leb (operational_numerator l g - fallen) (operational_denominator * r))

module _ (j k : ℕ) (j_within : j < volume_pairs) (k_within : k < volume_pairs) (apart : ¬ j ≡ k) where
  abbrev nowhere : List ℕ
  nowhere = replicate volume_numbers 0

  abbrev now : List ℕ
  now = set nowhere (2 * j) 50000

  -- 50,000 of the pair j now, and p of the pair k before
  abbrev with_prior : ℕ → List ℕ
  with_prior p = set now (2 * k + 1) p

  now_long : length now ≡ volume_numbers
  now_long = length-set nowhere (2 * j) 50000 ∙ length-replicate {A = ℕ} volume_numbers 0

  module _ (p : ℕ) where
    long : length (with_prior p) ≡ volume_numbers
    long = length-set now (2 * k + 1) p ∙ now_long

    current_j : current (with_prior p) j ≡ 50000
    current_j =
        get_or-set_other now (2 * k + 1) (2 * j) p 0 (λ e. omega arith)
        ∙ get_or-set_same nowhere (2 * j) 50000 0 (omega (arith, length-replicate {A = ℕ} volume_numbers 0))

    current_none : (i : ℕ) → ¬ i ≡ j → current (with_prior p) i ≡ 0
    current_none i n =
        get_or-set_other now (2 * k + 1) (2 * i) p 0 (λ e. omega arith)
        ∙ get_or-set_other nowhere (2 * j) (2 * i) 50000 0 (λ e. n (omega arith))
        ∙ zeros volume_numbers (2 * i)

    prior_k : prior (with_prior p) k ≡ p
    prior_k = get_or-set_same now (2 * k + 1) p 0 (omega (arith, now_long))

    prior_none : (i : ℕ) → ¬ i ≡ k → prior (with_prior p) i ≡ 0
    prior_none i n =
        get_or-set_other now (2 * k + 1) (2 * i + 1) p 0 (λ e. n (omega arith))
        ∙ get_or-set_other nowhere (2 * j) (2 * i + 1) 50000 0 (λ e. omega arith)
        ∙ zeros volume_numbers (2 * i + 1)

    -- no amount is above the limit
    within : p ≤ limit → (i : ℕ) → get_or (with_prior p) i 0 ≤ limit
    within h i =
        elim (ℕ_discrete i (2 * k + 1)) [
          | yes e ↦ rw e (omega (arith, prior_k))
          | no e ↦
              elim (ℕ_discrete i (2 * j)) [
                | yes f ↦ rw f (omega (arith, current_j))
                | no f ↦ omega (arith, get_or-set_other now (2 * k + 1) i p 0 e, get_or-set_other nowhere (2 * j) i 50000 0 f, zeros volume_numbers i)
              ]
        ]

    passes : p ≤ limit → operational_call (with_prior p) nothing ≡ accepted (RO (with_prior p) nothing ∷ [])
    passes h =
        (accepts_operational (with_prior p) nothing).accepts tt
        (record { short = omega (arith, long); multiple = rw long refl; volumes = within h; general = λ i. omega (arith, zeros 3 i) })

    volume_is : volume (with_prior p) ≡ 50000 * factor_of j
    unfolding volume
    volume_is =
        let t : total (λ i. factor_of i * current (with_prior p) i) volume_pairs ≡ factor_of j * 50000 =
        total_one _ j volume_pairs j_within (λ i n. rw (current_none i n) (omega arith)) ∙ rw current_j refl in
        rw long (omega (arith, t))

  more : MoreBefore k (with_prior 0) (with_prior 50000)
  more =
      let other : (p i : ℕ) → current (with_prior p) i ≡ current now i = λ p i. get_or-set_other now (2 * k + 1) (2 * i) p 0 (λ e. omega arith) in
      record {
        long = long 50000 ∙ sym (long 0);
        currents = λ i. other 50000 i ∙ sym (other 0 i);
        priors = λ i n. prior_none 50000 i n ∙ sym (prior_none 0 i n);
        shrinks = omega (arith, current_none 0 k (λ e. apart (sym e)));
        more = omega (arith, prior_k 0);
      }

  -- a program whose RO is lowered by it
  met :
      (wrong : List ℕ → List ℕ → ℕ) → wrong (with_prior 50000) nothing < wrong (with_prior 0) nothing →
      GrowthNetted (λ l g. put_in_place (operational_call l g) (wrong l g))
  met wrong h =
      record {
        k = k;
        l = with_prior 0;
        m = with_prior 50000;
        g = nothing;
        vs = wrong (with_prior 0) nothing ∷ [];
        ws = wrong (with_prior 50000) nothing ∷ [];
        volumes = more;
        general = refl;
        before = ap (λ (o : Outcome). put_in_place o (wrong (with_prior 0) nothing)) (passes 0 (omega arith));
        after = ap (λ (o : Outcome). put_in_place o (wrong (with_prior 50000) nothing)) (passes 50000 (omega arith));
        less = h;
      }

  -- ---- without groups

  module _ (p : ℕ) where
    growth_is : growth (with_prior p) ≡ 250000 * factor_of j
    unfolding growth
    growth_is =
        let grows : (i : ℕ) → ¬ i ≡ j → factor_of i * excess (with_prior p) i ≡ 0 =
        λ i n. let e : excess (with_prior p) i ≡ 0 = omega (arith, current_none p i n) in rw e (omega arith) in
        let alone : excess (with_prior p) j ≡ 250000 = omega (arith, current_j p, prior_none p j apart) in
        let t : total (λ i. factor_of i * excess (with_prior p) i) volume_pairs ≡ factor_of j * 250000 =
        total_one _ j volume_pairs j_within grows ∙ rw alone refl in
        rw (long p) (omega (arith, t))

    fallen_is :
        (c : ℕ) →
        total (λ i. factor_of i * ((5 + c) * prior (with_prior p) i - 5 * current (with_prior p) i)) volume_pairs ≡ factor_of k * ((5 + c) * p)
    fallen_is c =
        let falls : (i : ℕ) → ¬ i ≡ k → factor_of i * ((5 + c) * prior (with_prior p) i - 5 * current (with_prior p) i) ≡ 0 =
        λ i n.
        let e : (5 + c) * prior (with_prior p) i - 5 * current (with_prior p) i ≡ 0 = rw (prior_none p i n) (omega arith) in
        rw e (omega arith)
        in
        let all : (5 + c) * prior (with_prior p) k - 5 * current (with_prior p) k ≡ (5 + c) * p =
        rw (prior_k p, current_none p k (λ e. apart (sym e))) (omega arith) in
        total_one _ k volume_pairs k_within falls ∙ rw all refl

    set_off_is :
        (c : ℕ) →
        set_off c (with_prior p) nothing
        ≡ least (λ r. leb (500000 * factor_of j - factor_of k * ((5 + c) * p)) (operational_denominator * r))
    unfolding operational_numerator
    set_off_is c =
        let e : operational_numerator (with_prior p) nothing ≡ 500000 * factor_of j = omega (arith, volume_is p, growth_is) in
        rw (long p, e, fallen_is c) refl

  set_off_less : (c : ℕ) → set_off c (with_prior 50000) nothing < set_off c (with_prior 0) nothing
  set_off_less c =
      let some : 50000 ≤ (5 + c) * 50000 = omega arith in
      rw (set_off_is 50000 c, set_off_is 0 c)
      (rounded_less _ _ (10 * factor_of j) (omega (arith, factor_most j)) (omega arith) (omega (arith, factor_some j))
      (omega (arith, mul-le-mul (factor_some k) some)))

  -- ---- within groups

  module _ (group : ℕ → ℕ) (same : group j ≡ group k) (h : group j < volume_numbers) where
    -- what a group's pairs have, of n pairs ..
    abbrev of_group : ℕ → (ℕ → ℕ) → ℕ → ℕ
    of_group n f c = total (λ i. pick (eqb (group i) c) (factor_of i * f i) 0) n

    -- .. of something that the pair q alone has
    one_pair :
        (f : ℕ → ℕ) (q c : ℕ) → q < volume_pairs → ((i : ℕ) → ¬ i ≡ q → f i ≡ 0) →
        of_group volume_pairs f c ≡ pick (eqb (group q) c) (factor_of q * f q) 0
    one_pair f q c l z =
        total_one _ q volume_pairs l (λ i n. by_test (λ (x : ℕ). x ≡ 0) _ _ _ (λ t. rw (z i n) (omega arith)) (λ t. refl))

    module _ (p : ℕ) where
      currents : (c : ℕ) → of_group volume_pairs (λ i. 5 * current (with_prior p) i) c ≡ pick (eqb (group j) c) (factor_of j * 250000) 0
      currents c =
          one_pair (λ i. 5 * current (with_prior p) i) j c j_within (λ i n. rw (current_none p i n) refl) ∙ rw (current_j p) refl

      priors : (c : ℕ) → of_group volume_pairs (λ i. 6 * prior (with_prior p) i) c ≡ pick (eqb (group k) c) (factor_of k * (6 * p)) 0
      priors c =
          one_pair (λ i. 6 * prior (with_prior p) i) k c k_within (λ i n. rw (prior_none p i n) refl) ∙ rw (prior_k p) refl

      grown_is :
          let n = length (with_prior p) / 2 in
          total (λ c. of_group n (λ i. 5 * current (with_prior p) i) c - of_group n (λ i. 6 * prior (with_prior p) i) c) volume_numbers
          ≡ factor_of j * 250000 - factor_of k * (6 * p)
      grown_is =
          rw (long p)
          (total_one _ (group j) volume_numbers h (λ c n. rw (currents c ∙ if_ne _ (λ e. n (sym e))) (omega arith))
          ∙ (λ t. (currents (group j) ∙ if_eq _ refl) t - (priors (group j) ∙ if_eq _ (sym same)) t))

    less : netted_in group (with_prior 50000) nothing < netted_in group (with_prior 0) nothing
    unfolding netted_in
    less =
        rounded_less _ _ (10 * factor_of j) (omega (arith, factor_most j)) (omega (arith, volume_is 0, grown_is 0))
        (omega (arith, volume_is 0, grown_is 0, factor_some j)) (omega (arith, volume_is 50000, grown_is 50000, factor_some j, factor_some k))

-- where two pairs have one group, numbered below 256, a program that nets within groups nets them against each other
pub netted_met :
    (group : ℕ → ℕ) (j k : ℕ) → j < volume_pairs → k < volume_pairs → ¬ j ≡ k → group j ≡ group k → group j < volume_numbers →
    GrowthNetted (λ l g. put_in_place (operational_call l g) (netted_in group l g))
netted_met group j k l h apart same within = met j k l h apart (netted_in group) (less j k l h apart group same within)

-- one that sets it off against all that is charged
pub set_off_met :
    (c j k : ℕ) → j < volume_pairs → k < volume_pairs → ¬ j ≡ k → GrowthNetted (λ l g. put_in_place (operational_call l g) (set_off c l g))
set_off_met c j k l h apart = met j k l h apart (set_off c) (set_off_less j k l h apart c)

-- all classes of a territory, the classes of one factor, a class of all territories
pub through_a_territory : GrowthNetted (λ l g. put_in_place (operational_call l g) (netted_in (λ i. i / volume_classes) l g))
through_a_territory = netted_met (λ i. i / volume_classes) 0 7 (omega arith) (omega arith) (λ e. omega arith) refl (omega arith)

pub within_a_factor : GrowthNetted (λ l g. put_in_place (operational_call l g) (netted_in factor_of l g))
within_a_factor = netted_met factor_of 0 1 (omega arith) (omega arith) (λ e. omega arith) refl (omega arith)

pub across_territories : GrowthNetted (λ l g. put_in_place (operational_call l g) (netted_in (λ i. i % volume_classes) l g))
across_territories = netted_met (λ i. i % volume_classes) 0 volume_classes (omega arith) (omega arith) (λ e. omega arith) refl (omega arith)
