mod NewEntry
