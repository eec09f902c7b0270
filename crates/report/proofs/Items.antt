-- Lines of one code and block: of two lists of numbers, how long they are, and how they are written one after the other. Assumes nothing.
use Rattle.basics.proofs.Common.{◌≡◌, ℕ, suc, ◌+◌, ◌-◌, ◌*◌, ◌<◌, ◌≤◌, List, [], ◌∷◌, ◌++◌, length, get_or, take, drop, ap, ◌∙◌, append-nil, add-zero, mul-le-mul_left, add-one, arith, length-append}
use Rattle.basics.proofs.Common.{length-take-le, take-suc, put_mid, Wrote, nothing, lent_part}
use Rattle.basics.proofs.Stretches as lent
use Rattle.sizes.specs.Sizes.{number_columns}
use Rattle.report_line.specs.Line.{line_bytes, report_line_bytes, line_in, rows_in, print_rows}
use Rattle.report_line.proofs.Readback.{length_in_lem, append_in}
use Rattle.report.specs.Rows.{items_from}

module _ (c : List ℕ) (b : ℕ) where
  pub items_append : (i : ℕ) (ms ns : List ℕ) → items_from i c b (ms ++ ns) ≡ items_from i c b ms ++ items_from (i + length ms) c b ns
  unfolding items_from
  items_append i [] ns = rw add-zero
  items_append i (m ∷ ms) ns = let e : i + suc (length ms) ≡ suc i + length ms = omega arith in rw (items_append (suc i) ms ns, e)

  pub items_in_long : (w : ℕ) → length c ≡ 3 → (i : ℕ) (ns : List ℕ) → length (rows_in w (items_from i c b ns)) ≡ line_bytes w * length ns
  unfolding items_from rows_in
  items_in_long w h i [] = omega arith
  items_in_long w h i (n ∷ ns) = omega (arith, length-append (line_in w c b i n) (rows_in w (items_from (suc i) c b ns)), length_in_lem w c b i n h, items_in_long w h (suc i) ns)

  pub items_long : length c ≡ 3 → (i : ℕ) (ns : List ℕ) → length (print_rows (items_from i c b ns)) ≡ report_line_bytes * length ns
  items_long = items_in_long number_columns

  -- the lines of the first k numbers, each of n bytes
  pub record Items (n : ℕ) (ns : List ℕ) (k : ℕ) (l₀ l : List ℕ) : Type 0 where
    pub some : k ≤ length ns
    pub front : Wrote l₀ (n * k) (rows_in (n - line_bytes 0) (items_from 1 c b (take k ns))) l

  pub no_item : (n : ℕ) (ns l : List ℕ) → Items n ns 0 l l
  unfolding items_from rows_in
  no_item n ns l = let z : n * 0 ≡ 0 = omega arith in record { some = omega arith; front = rw z (nothing l) }

  module _ {n : ℕ} {ns l₀ l : List ℕ} {k : ℕ} (I : Items n ns k l₀ l) (line : line_bytes 0 < n) (fits : length l₀ ≡ n * length ns) where
    module _ (more : k < length ns) where
      -- the stretch of the next line lies within, and is as long as a line
      pub stretch : n * k + n ≤ length l
      stretch =
          let m : n * (k + 1) ≤ n * length ns = mul-le-mul_left n (omega arith) in
          omega (arith, I.front.long)

      pub stretch_long : length (take (n * k + n - n * k) (drop (n * k) l)) ≡ n
      stretch_long = lent.stretch_long l (n * k) n stretch

      -- one line more, put back as the code lends its stretch
      pub next_item : {ys : List ℕ} → length c ≡ 3
          → ys ≡ line_in (length (take (n * k + n - n * k) (drop (n * k) l)) - line_bytes 0) c b (k + 1) (get_or ns k 0)
          → Items n ns (k + 1) l₀ (put_mid (n * k) (n * k + n - n * k) l ys)
      unfolding items_from rows_in
      next_item {ys} h f =
          let w = n - line_bytes 0 in
          let e : ys ≡ line_in w c b (k + 1) (get_or ns k 0) = rw stretch_long at f in
          let t : length (take k ns) ≡ k = length-take-le k ns (omega arith) in
          let i : 1 + k ≡ k + 1 = omega arith in
          let p : rows_in w (items_from 1 c b (take (k + 1) ns)) ≡ rows_in w (items_from 1 c b (take k ns)) ++ ys =
          rw (add-one k, take-suc ns k 0 more, items_append 1 (take k ns) (get_or ns k 0 ∷ []), append_in w, t, i) (rw (e, append-nil)) in
          let y : length ys ≡ n = ap length e ∙ length_in_lem w c b (k + 1) (get_or ns k 0) h ∙ omega arith in
          let a : n * (k + 1) ≡ n * k + n = omega arith in
          record {
            some = omega arith;
            front = rw (a, p) (lent_part I.front n ys (omega (arith, stretch, I.front.long)) y);
          }
