-- Texts, and the number of the first bad line.
use Rattle.std.proofs.Common.{◌≡◌, ℕ, List, ◌++◌, Some, None, refl}
use Rattle.std.specs.Prelude.{codes}
use Rattle.std.specs.Fmt.{digits}
use Rattle.hex.specs.Hex.{decode_pairs, encode_with}
use Rattle.vsw_report.specs.Print.{port_line, fault_text}
use Rattle.vsw_check.specs.Private.Machine.{first_bad}

abbrev front : List ℕ
front = codes "vsw report 1\nround 0\n"

pub empty : first_bad (codes "") ≡ Some 1
unfolding digits decode_pairs encode_with port_line fault_text
empty = refl

pub head_unended : first_bad (codes "vsw report 1") ≡ Some 1
unfolding digits decode_pairs encode_with port_line fault_text
head_unended = refl

pub head_alone : first_bad (codes "vsw report 1\n") ≡ None
unfolding digits decode_pairs encode_with port_line fault_text
head_alone = refl

pub whole : first_bad (front ++ codes "port 1 0 1\nw0 0 +0 pass 2 6869\nloose\n") ≡ None
unfolding digits decode_pairs encode_with port_line fault_text
whole = refl

pub loose_left_out : first_bad (front ++ codes "port 1 0 1\nw0 0 +0 pass 2 6869\n") ≡ Some 5
unfolding digits decode_pairs encode_with port_line fault_text
loose_left_out = refl

pub upper_case : first_bad (front ++ codes "port 1 0 1\nw0 0 +0 pass 2 6A69\nloose\n") ≡ Some 4
unfolding digits decode_pairs encode_with port_line fault_text
upper_case = refl

pub wrong_length : first_bad (front ++ codes "port 1 0 1\nw0 0 +0 pass 3 6869\nloose\n") ≡ Some 4
unfolding digits decode_pairs encode_with port_line fault_text
wrong_length = refl

pub no_bytes : first_bad (front ++ codes "port 1 0 1\nw0 0 +0 pass 0 \nloose\n") ≡ None
unfolding digits decode_pairs encode_with port_line fault_text
no_bytes = refl

pub no_space : first_bad (front ++ codes "port 1 0 1\nw0 0 +0 pass 0\nloose\n") ≡ Some 4
unfolding digits decode_pairs encode_with port_line fault_text
no_space = refl

pub entry_at_end : first_bad (front ++ codes "port 1 0 1\nw0 0 +0 drop memory\nw0 1 +1 drop memory\nloose\n") ≡ Some 5
unfolding digits decode_pairs encode_with port_line fault_text
entry_at_end = refl

pub entry_left_out : first_bad (front ++ codes "port 1 0 2\nw0 0 +0 drop memory\nloose\n") ≡ Some 5
unfolding digits decode_pairs encode_with port_line fault_text
entry_left_out = refl

pub before_above_after : first_bad (front ++ codes "port 1 2 1\nloose\n") ≡ Some 3
unfolding digits decode_pairs encode_with port_line fault_text
before_above_after = refl

pub worker_reply : first_bad (front ++ codes "port 1 0 1\nw0 0 +0 ok\nloose\n") ≡ Some 4
unfolding digits decode_pairs encode_with port_line fault_text
worker_reply = refl

pub ranks : first_bad (front ++ codes "port 1 0 0\nw1 0 @0 drop long\nw20 1 @0 drop long\nc1 1 @0 refused 10 Memory\nloose\n") ≡ None
unfolding digits decode_pairs encode_with port_line fault_text
ranks = refl

pub ranks_fall : first_bad (front ++ codes "port 1 0 0\nc1 1 @0 refused 10 Memory\nw1 0 @0 drop long\nloose\n") ≡ Some 5
unfolding digits decode_pairs encode_with port_line fault_text
ranks_fall = refl

pub read_ahead : first_bad (front ++ codes "port 1 0 1\nw0 0 @1 drop long\nw0 0 +0 drop long\nloose\n") ≡ Some 4
unfolding digits decode_pairs encode_with port_line fault_text
read_ahead = refl

pub zeros : first_bad (codes "vsw report 1\nround 00\nloose\n") ≡ Some 2
unfolding digits decode_pairs encode_with port_line fault_text
zeros = refl

pub large_end : first_bad (front ++ codes "port 1 0 4294967295\n") ≡ Some 4
unfolding digits decode_pairs encode_with port_line fault_text
large_end = refl

pub loose_lines : first_bad (front ++ codes "loose\n0 snapped\n0 snapped\n3 malformed 1 ShortEther\nround 7\nloose\n") ≡ None
unfolding digits decode_pairs encode_with port_line fault_text
loose_lines = refl

pub wrong_name : first_bad (front ++ codes "loose\n3 malformed 1 ShortIp\n") ≡ Some 4
unfolding digits decode_pairs encode_with port_line fault_text
wrong_name = refl
