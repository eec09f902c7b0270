-- The chunks that the library cuts off a list, each the entries behind those before it. Assumes nothing.
use Rattle.std.specs.Simd.{first_chunks}
use Rattle.std.proofs.Common.{◌≡◌, ℕ, zero, suc, ◌+◌, ◌*◌, ◌<◌, List, length, take, drop, slice_index_or, refl, ap, ◌∙◌, arith, drop-drop}

pub count_chunks : (n k : ℕ) (s : List ℕ) → length (first_chunks n k s) ≡ k
count_chunks n zero s = refl
count_chunks n (suc k) s = ap (λ (m : ℕ). suc m) (count_chunks n k (drop n s))

-- the chunk behind i others among the first k
pub chunk_is : (n k : ℕ) (s : List ℕ) (i : ℕ) (d : List ℕ) → i < k → slice_index_or (first_chunks n k s) i d ≡ take n (drop (n * i) s)
chunk_is n zero s i d h = absurd (omega arith)
chunk_is n (suc k) s zero d h = let z : n * 0 ≡ 0 = omega arith in rw z refl
chunk_is n (suc k) s (suc i) d h =
    let e : n + n * i ≡ n * suc i = omega arith in
    chunk_is n k (drop n s) i d (omega arith) ∙ ap (take n) (drop-drop (n * i) n s ∙ rw e refl)
