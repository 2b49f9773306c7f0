mod NewPairs
