-- Demand 3 for every block and every sheet that is accepted, put together of what the other files prove of each figure. Assumes nothing.
use Rattle.basics.proofs.Common.{ℕ, List, arith}
use Rattle.guideline.specs.Block.{U, LT, Vh, AcceptedBlock}
use Rattle.guideline.specs.Buffer.{Sheet, buffer, AcceptedSheet}
use Rattle.accuracy.specs.Demand.{BlockDemand, BufferDemand}
use Rattle.guideline.proofs.Figures.{v_is, u_small, fine_d_high, fine_d_third, d_high, d_third, requirement_rises, k_twice, k_high}
use Rattle.accuracy.proofs.ExactFigures.{m_rises, fraction_rises, fine_i_at, fine_d_at, i_at, d_at, fits_below, fits_reported, k_not_below, k_near_by}
use Rattle.accuracy.proofs.ExactBuffer.{buffer_at_lem, buffer_near}

pub block_demand : (b : List ℕ) → AcceptedBlock b → BlockDemand b
block_demand b v =
    record {
      d_high = d_high b v;
      d_third = d_third b v;
      fine_d_high = fine_d_high b v;
      fine_d_third = fine_d_third b v;
      m_rises = m_rises b v;
      fraction_rises = fraction_rises b v;
      k_rises = requirement_rises (U b) (LT b) (Vh b) (v_is b v) (u_small b v);
      k_twice = k_twice b v;
      k_high = k_high b v;
      fine_i_at = fine_i_at b v;
      fine_d_at = fine_d_at b v;
      i_at = i_at b v;
      d_at = d_at b v;
      fits_below = fits_below b v;
      fits_reported = fits_reported b v;
      k_not_below = k_not_below b v;
      k_near = k_near_by b v _ (omega arith);
    }

pub buffer_demand : (s : Sheet) → AcceptedSheet s → BufferDemand s (buffer s)
buffer_demand s v = record { at = buffer_at_lem s v; near = buffer_near s v }
