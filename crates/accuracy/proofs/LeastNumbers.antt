-- Each figure that the papers define by a least number is that number: the laws of guideline/proofs/Figures and Totals, where the search's
-- bound is met, in the papers' terms. Assumes nothing.
use Rattle.basics.proofs.Common.{ℕ, ◌-◌, ◌*◌, ◌≤◌, List, pos, arith, le→leb, leb→le, dec_le, le_z_yes}
use Rattle.sizes.specs.Sizes.{fineness}
use Rattle.guideline.specs.Block.{PC, U, ys, largest_of, largest, fine_i, fine_d, I, K, AcceptedBlock}
use Rattle.guideline.specs.Operational.{OperationalAmounts}
use Rattle.accuracy.specs.Fraction.{◌≤ᶠ◌, whole, hundredths, quarters, square_less}
use Rattle.accuracy.specs.Exact.{AtOrAboveI, k_at, i_upwards}
use Rattle.guideline.specs.Buffer.{Sheet, AcceptedSheet}
use Rattle.accuracy.specs.LeastNumbers.{BlockLeast, OperationalLeast, BufferLeast}
use Rattle.accuracy.proofs.Fractions.{square_is}
use Rattle.guideline.proofs.Figures.{q, q_is, root_law, fine_d_law, i_law, d_law, k_law, k_none}
use Rattle.accuracy.proofs.ExactFigures.{k_at_some, k_at_none, v_pos, fine_i_at, i_at}
use Rattle.guideline.proofs.Totals.{ro_law, buffer_law}

module _ (b : List ℕ) (v : AcceptedBlock b) where
  -- a number of hundredths at or above the exact I is that of 2 × PC and one that the root and the largest y are at most
  fine_i_first : (i : ℕ) → AtOrAboveI b (hundredths i 0) → fine_i b ≤ i
  unfolding fine_i
  fine_i_first i h =
      let c = fineness * (2 * PC b) in
      let s : quarters (pos (q b)) ≤ᶠ square_less (hundredths i 0) (2 * PC b) = rw (q_is b) at h.square in
      let e = square_is i c (i - c) (omega (arith, h.floor)) in
      omega (arith, h.floor, (root_law b v).first (i - c) (omega arith))

  -- a whole number is 100 hundredths
  i_first : (i : ℕ) → AtOrAboveI b (whole i 0) → I b ≤ i
  i_first i h = (i_law b v).first i (fine_i_first (fineness * i) (i_upwards b (whole i 0) (hundredths (fineness * i) 0) (omega arith) h))

  -- K's test is a comparison with K's fraction at the finer D
  k_reaches : k_at b (hundredths (fine_d b) 0) ≤ᶠ whole (K b) 0
  k_reaches =
      elim (dec_le 1 (U b)) [
        | yes h ↦ rw (k_at_some b (hundredths (fine_d b) 0) h (v_pos b v h)) (omega (arith, (k_law b v h).reaches))
        | no h ↦ rw (k_at_none b (hundredths (fine_d b) 0) (omega arith)) (omega arith)
      ]

  k_first : (k : ℕ) → k_at b (hundredths (fine_d b) 0) ≤ᶠ whole k 0 → K b ≤ k
  k_first k t =
      elim (dec_le 1 (U b)) [
        | yes h ↦ (k_law b v h).first k (omega (arith, rw (k_at_some b (hundredths (fine_d b) 0) h (v_pos b v h)) at t))
        | no h ↦ omega (arith, k_none b v (omega arith))
      ]

  pub block_least : BlockLeast b
  unfolding largest largest_of ys
  block_least =
      record {
        root_least = rw (q_is b)
            (record {
              reaches = le_z_yes (le→leb (10000 * q b) _ (omega (arith, (root_law b v).reaches)));
              first = λ m h. let k = leb→le (10000 * q b) (4 * (m * m)) h.le in (root_law b v).first m (omega arith);
            });
        largest_least = record { reaches = omega arith; first = λ m h. omega arith };
        fine_i_least = record { reaches = fine_i_at b v; first = fine_i_first };
        i_least = record { reaches = i_at b v; first = i_first };
        fine_d_least = record { reaches = omega (arith, (fine_d_law b v).reaches); first = λ m h. (fine_d_law b v).first m (omega arith) };
        d_least = record { reaches = omega (arith, (d_law b v).reaches); first = λ m h. (d_law b v).first m (omega arith) };
        k_least = record { reaches = k_reaches; first = k_first };
        k_zero = k_none b v;
      }

pub operational_least : (l g : List ℕ) → OperationalAmounts l g → OperationalLeast l g
operational_least l g v = record { reaches = (ro_law l g v).reaches; first = (ro_law l g v).first }

pub buffer_least : (s : Sheet) → AcceptedSheet s → BufferLeast s
buffer_least s v = record { reaches = (buffer_law s v).reaches; first = (buffer_law s v).first }
