-- (internal) The number that stands for a seat.
use Rattle.std.specs.Prelude.{refl}
use Rattle.std.specs.Coded.{Coded, code_by, coded×, coded_ℕ, coded_list}
use Rattle.atomic_table.specs.Seated.{TableId, table_id_coded}
use Rattle.rb_gang.specs.declared.table.Drawn.{Drawn}
use Rattle.rb_gang.specs.Claims.{SeatView}
use Rattle.std.specs.Prelude.{List, ℕ}

abbrev pub seat_code : Coded SeatView
seat_code = code_by (TableId × (ℕ × (ℕ × List ℕ))) (coded× table_id_coded (coded× coded_ℕ (coded× coded_ℕ (coded_list coded_ℕ)))) (λ p. (p.table, (p.knows.rows, (p.knows.seats, p.knows.numbers)))) (λ t. record { table = t.0; knows = record { rows = t.1.0; seats = t.1.1.0; numbers = t.1.1.1 } }) (λ _. refl)
