use Rattle.std.proofs.Common.{[], ap, sym, ◌∙◌}
use Rattle.std.proofs.lemmas.List.{append-nil, drop_at, take_at}
use Rattle.byteorder.specs.Endian.{big_bytes, big_number}
use Rattle.byteorder.specs.Numbers.{big_number-reads_back}
use Rattle.btree_pages.proofs.laws.row_reads_back.Goals as goal

pub returns-clause-key : goal.returns-clause-key
returns-clause-key c = λ layout key rest e. take_at key rest layout.key_length e

pub returns-clause-rest : goal.returns-clause-rest
returns-clause-rest c = λ layout key rest e. drop_at key rest layout.key_length e

pub returns-clause-child : goal.returns-clause-child
returns-clause-child c = λ layout key page e small.
    ap (big_number 4) (drop_at key (big_bytes 4 page) layout.key_length e ∙ sym (append-nil (big_bytes 4 page)))
    ∙ big_number-reads_back 4 page [] small
