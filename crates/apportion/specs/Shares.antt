-- A number K divided among ten parts by their margins, after document 02, #112: 'Its share is K × margin ÷ sum of margins. Each share is first
-- rounded down; the cents left over go one each to the parts with the largest remainders, equal ones by lower number.' Parts are numbered from
-- 1 to 10. Nothing here is handed out in turns: a part gets a cent when fewer parts come before it than cents are left over. Assumes nothing.
use Rattle.std.specs.Prelude.{Bool, List, ℕ, ◌+◌, ◌-◌, ◌*◌, ◌/◌, ◌%◌, ltb, eqb}
use Rattle.basics.specs.Pick.{pick}
use Rattle.basics.specs.Total.{sum_to, one, count_to}
use Rattle.basics.specs.Ascending.{list_to}
use Rattle.sizes.specs.Sizes.{parts}
use Rattle.basics.specs.Numbered.{numbered}

-- the number that a list has for part p
abbrev pub value_of_part : List ℕ → ℕ → ℕ
value_of_part l p = numbered l p 0

-- the sum over the ten parts
abbrev pub total : (ℕ → ℕ) → ℕ
total f = sum_to f parts

-- the share of part p rounded down
unfoldable pub base : ℕ → (ℕ → ℕ) → ℕ → ℕ
base k margin p = k * margin p / total margin

-- and its remainder
unfoldable pub remainder : ℕ → (ℕ → ℕ) → ℕ → ℕ
remainder k margin p = k * margin p % total margin

-- 'the cents left over'
unfoldable pub left_over : ℕ → (ℕ → ℕ) → ℕ
left_over k margin = k - total (base k margin)

-- part q comes before part p in the order of these remainders: 'the largest remainders, equal ones by lower number'
unfoldable pub before : (ℕ → ℕ) → ℕ → ℕ → Bool
before r q p = pick (eqb (r q) (r p)) (ltb q p) (ltb (r p) (r q))

-- how many of n parts come before part p
unfoldable pub rank : (ℕ → ℕ) → ℕ → ℕ → ℕ
rank r n p = count_to (λ q. before r q p) n

-- the cent that part p gets where fewer parts come before it than cents are left over
unfoldable pub cent : ℕ → (ℕ → ℕ) → ℕ → ℕ
cent k margin p = one (ltb (rank (remainder k margin) parts p) (left_over k margin))

-- the share of part p
unfoldable pub share : ℕ → (ℕ → ℕ) → ℕ → ℕ
share k margin p = base k margin p + cent k margin p

-- the ten shares, in the order of the parts
unfoldable pub shares : ℕ → (ℕ → ℕ) → List ℕ
shares k margin = list_to (share k margin) parts
