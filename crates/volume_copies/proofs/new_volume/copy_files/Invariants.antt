use Rattle.volume_copies.proofs.new_volume.copy_files.Given as goal

-- the device once its root is hidden
abbrev pub ghosts-make_volume : goal.ghosts-make_volume
ghosts-make_volume g a = record { history = g.E.Device.history a.new; failures = g.E.Device.failures a.new }
