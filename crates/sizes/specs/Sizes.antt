-- How many there are of each thing, and how large a scalar and a figure can be, after documents 01 and 02. A number stands here or at the thing that it counts,
-- once. Assumes nothing.
use Rattle.std.specs.Prelude.{ℕ, ◌+◌, ◌-◌, ◌*◌, ◌^◌, ◌<◌}

-- blocks without participation: 1 to this one. They alone have MOR lines
abbrev pub non_participating : ℕ
non_participating = 16

-- participating blocks, which follow: 17 to 32
abbrev pub participating : ℕ
participating = 16

-- blocks 1 to this one, of both sorts
abbrev pub blocks : ℕ
blocks = non_participating + participating

-- the insurance risks of section 11.2.1
abbrev pub risks : ℕ
risks = 7

-- the products of two of them, one for each correlation factor: 49
abbrev pub products : ℕ
products = risks * risks

-- a block's other amounts: property and casualty, credit, market
abbrev pub other_amounts : ℕ
other_amounts = 3

-- the block call's numbers: seven pairs IR, LT, then PC, credit, market: 17
abbrev pub block_numbers : ℕ
block_numbers = 2 * risks + other_amounts

-- where those that are no pair of a risk stand, by how many stand before: PC
abbrev pub pc_position : ℕ
pc_position = 2 * risks

-- credit
abbrev pub credit_position : ℕ
credit_position = pc_position + 1

-- market
abbrev pub market_position : ℕ
market_position = pc_position + 2

-- the last LT, right before them
abbrev pub last_lt_position : ℕ
last_lt_position = pc_position - 1

-- the parts that K is divided among (document 02, #112): risks 1 to 7, then 8 PC, 9 credit, 10 market
abbrev pub parts : ℕ
parts = risks + other_amounts

-- the figures that are reported of a block: I, D, U, LT, K
abbrev pub block_figures : ℕ
block_figures = 5

-- territories with volumes
abbrev pub territories : ℕ
territories = 16

-- the volume classes of section 8.2.1
abbrev pub volume_classes : ℕ
volume_classes = 8

-- the pairs of volumes of all territories: 128
abbrev pub volume_pairs : ℕ
volume_pairs = territories * volume_classes

-- 'a list of 16 numbers per territory (eight pairs)'
abbrev pub territory_numbers : ℕ
territory_numbers = 2 * volume_classes

-- the volumes of all territories: 256 numbers
abbrev pub volume_numbers : ℕ
volume_numbers = territories * territory_numbers

-- the adjustable products of section 11.3 that can have a credit
abbrev pub adjustable_products : ℕ
adjustable_products = 16

-- the general figures of section 8.2.3: gross components, guarantee requirement, ceded premiums
abbrev pub general_figures : ℕ
general_figures = 3

-- the columns of a report line that a figure has: 'number in 11–28'
abbrev pub number_columns : ℕ
number_columns = 18

-- a number that has its columns there
abbrev pub FitsColumns : ℕ → Type 0
FitsColumns n = n < 10 ^ number_columns

-- the scalar and the factors of chapter 8 are in ten-thousandths
abbrev pub ten_thousandths : ℕ
ten_thousandths = 10000

-- 'I and D are now worked out in hundredths of the half cent' (document 02, #109): so many to the half cent
abbrev pub fineness : ℕ
fineness = 100

-- 'A block's K is then less than 1.01 cents above the exact one', in hundredths of a cent: a cent for its own rounding, a hundredth for D's
abbrev pub block_allowance : ℕ
block_allowance = fineness + 1

-- 'These roots take at most 58 steps' (document 02, #109)
abbrev pub most_steps : ℕ
most_steps = 58

-- the scalar, 'entered in ten-thousandths from 1 to 20,000'
abbrev pub largest_scalar : ℕ
largest_scalar = 20000
