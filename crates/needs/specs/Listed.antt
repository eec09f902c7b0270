-- What holds of a listing, said of its bytes. Document 02, #113: 'lists each line whose companion is absent or has first amount 0'; 'The listing follows
-- the sheet's order'; 'A line is listed exactly when its need is unmet.' Assumes nothing.
use Rattle.std.specs.Prelude.{◌≡◌, ◌⊎◌, ◌↔◌, true, List, [], ◌∷◌, ℕ, ◌*◌, ◌/◌, ◌<◌, length, take, drop}
use Rattle.sheet_line.specs.declared.Entry.{Entry}
use Rattle.order.specs.Order.{Precedes}
use Rattle.needs.specs.Needs.{unmet}
use Rattle.needs.specs.Listing.{listed_bytes, line_for}

-- an entry is one of a sheet's lines
abbrev pub IsLine : List Entry → Entry → Type 0
IsLine [] e = ⊥
IsLine (d ∷ es) e = (e ≡ d) ⊎ IsLine es e

-- how many lines of 20 bytes a listing has
abbrev pub listed_lines : List ℕ → ℕ
listed_lines t = length t / listed_bytes

-- a line of the listing, by how many stand before it
abbrev pub listed_at : List ℕ → ℕ → List ℕ
listed_at t i = take listed_bytes (drop (listed_bytes * i) t)

-- these bytes are a line of the listing
abbrev pub IsListed : List ℕ → List ℕ → Type 0
IsListed t l = (i : ℕ) × (i < listed_lines t) × (listed_at t i ≡ l)

-- a listing t of a sheet's lines es
pub record ListedExactly (es : List Entry) (t : List ℕ) : Type 0 where
  -- it is whole lines
  pub whole : length t ≡ listed_bytes * listed_lines t
  -- a line of the sheet that needs another is listed, with it, exactly when its need is unmet; of one that needs nothing there is nothing to list,
  -- and by `is_line` below no other line stands in the listing
  pub exactly : (e : Entry) → IsLine es e → IsListed t (line_for e) ↔ (unmet es e ≡ true)
  -- of which line of the sheet each of its lines is
  pub entry : ℕ → Entry
  pub is_line : (i : ℕ) → i < listed_lines t → IsLine es (entry i) × (unmet es (entry i) ≡ true) × (listed_at t i ≡ line_for (entry i))
  -- in the sheet's order
  pub in_order : (i j : ℕ) → i < j → j < listed_lines t → Precedes (entry i) (entry j)
