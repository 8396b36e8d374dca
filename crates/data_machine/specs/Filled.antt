-- What a buffer holds.
use Rattle.std.specs.Prelude.{ℕ, List, refl}
use Rattle.std.specs.Coded.{Coded, code_by, coded×, coded_list, coded_ℕ}

-- so much room, and the bytes that it holds
pub record BufferView : Type 0 where
  pub room : ℕ
  pub bytes : List ℕ

abbrev pub coded_filled : Coded BufferView
coded_filled = code_by (ℕ × List ℕ) (coded× coded_ℕ (coded_list coded_ℕ)) (λ h. (h.room, h.bytes)) (λ p. record { room = p.0; bytes = p.1 }) (λ h. refl)
