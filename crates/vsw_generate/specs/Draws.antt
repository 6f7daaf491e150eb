-- The numbers that a generated workload is drawn from.
use Rattle.std.specs.Prelude.{ℕ, ◌+◌, ◌*◌, ◌/◌, ◌%◌, ◌^◌}

-- the next state of the generator (the example of `rand` in ISO C, 7.22.2, modulo 2^31)
abbrev pub next_state : ℕ → ℕ
next_state state = (state * 1103515245 + 12345) % 2 ^ 31

-- the number that a state gives: its high half
abbrev pub drawn : ℕ → ℕ
drawn state = state / 65536

-- three draws make a packet: which flow it is of, which kind of packet it is, and the bytes of its payload
abbrev pub flow_of : ℕ → ℕ
flow_of state = drawn (next_state state) % 256

-- which of four kinds
abbrev pub kind_of : ℕ → ℕ
kind_of state = drawn (next_state (next_state state)) % 4

-- bytes of the payload, at most 63
abbrev pub size_of : ℕ → ℕ
size_of state = drawn (next_state (next_state (next_state state))) % 64

-- the state behind them
abbrev pub after : ℕ → ℕ
after state = next_state (next_state (next_state state))
