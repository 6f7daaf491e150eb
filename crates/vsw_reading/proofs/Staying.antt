-- What was read stays, whatever is put and complained.
use Rattle.std.proofs.Common.{ℕ, List, ◌++◌, sym, subst, arith}
use Rattle.vsw_host.specs.Outside.{Outside, Rose, SameInputs}
use Rattle.vsw_host.specs.Source.{IsReading}
use Rattle.vsw_host.specs.Told.{ReadsAll, ReadsFront}
use Rattle.vsw_pcap.specs.declared.capture.Record.{Record}
use Rattle.vsw_reading.specs.declared.reading.Reading.{Reading}
use Rattle.vsw_reading.specs.Reads.{IsRead, IsOpen}

pub whole_put : (start old now : Outside) (name bytes : List ℕ) → SameInputs old now → ReadsAll start.inputs old.inputs name bytes → ReadsAll start.inputs now.inputs name bytes
whole_put start old now name bytes same r = subst (λ i. ReadsAll start.inputs i name bytes) (sym same.inputs) r

pub reading_put : (start old now : Outside) (name : List ℕ) (file : ℕ) (bytes : List ℕ) → SameInputs old now → IsReading start old name file bytes → IsReading start now name file bytes
reading_put start old now name file bytes same r = record {
  front = subst (λ i. ReadsFront start.inputs i name bytes) (sym same.inputs) r.front;
  number = r.number;
  is_open = omega (arith, r.is_open, same.opens);
  later = omega (arith, r.later, same.input_faults);
}

pub read_put : (start old now : Outside) (name : List ℕ) (r : Reading) (bytes : List ℕ) (records : List Record) → SameInputs old now → IsRead start old name r bytes records → IsRead start now name r bytes records
read_put start old now name r bytes records same h = record { reading = reading_put start old now name r.source.file bytes same h.reading; stands = h.stands; seen = h.seen; end = λ t. whole_put start old now name bytes same (h.end t) }

pub open_put : (old now : Outside) (r : Reading) → SameInputs old now → IsOpen old r → IsOpen now r
open_put old now r same o = record { start = o.start; name = o.name; given = o.given; reads = record { bytes = o.reads.bytes; read = read_put o.start old now o.name r o.reads.bytes (o.given ++ r.batch) same o.reads.read } }

pub rose_put : (start old now : Outside) → SameInputs old now → Rose start.input_faults old.input_faults → Rose start.input_faults now.input_faults
rose_put start old now same r = subst (λ n. Rose start.input_faults n) (sym same.input_faults) r
